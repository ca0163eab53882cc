use Rattle.std.proofs.Common.{append-nil, arith, ◌≡◌, ◌<◌, ℕ, true, false, refl, sym, ap, ◌∙◌, subst, inr}
use Rattle.can_frame.specs.Message.{bit}
use Rattle.std.proofs.lemmas.Result.{on_ok_weaker}
use Rattle.sja_bus.proofs.ItemsTaken.Breaking.{full_for_abort}
use Rattle.sja_link.proofs.Growing.Moving.{goes_trans, goes_aborted}
use Rattle.sja_bus.proofs.AtPorts.TurnsTold.{aborts_none, takes_then}
use Rattle.sja_link.specs.BusLedgers.{link_of}
use Rattle.lemmas.proofs.Results.{err_both}
use Rattle.sja_journal.proofs.Growing.Begins.{begins_none, begun_aborted}
use Rattle.sja_bus.proofs.bus_node.BusNode.open_bit.Goals as goal

pub returns-then-ordered-clause-goes : goal.returns-then-ordered-clause-goes
returns-then-ordered-clause-goes g c =
    let E = g.E.BusEnd in let met = g.met.E.BusEnd in
    let j = c.args.self.now.journal.entries in let k = c.gather.new.self.journal.entries in let l =
    c.abort.new.self.journal.entries in
    on_ok_weaker c.abort.result
    (λ a. goes_trans E.same E.stands met.same_trans c.args.end.now c.gather.new.end c.gather.new.end j k l
    c.in_ok-gather.ensures.goes (goes_aborted E.same E.stands met.same_refl c.gather.new.end k l a.aborts))
    c.abort.ensures.aborts

pub returns-then-ordered-clause-within : goal.returns-then-ordered-clause-within
returns-then-ordered-clause-within g c =
    let k = c.gather.new.self.journal.entries in let l = c.abort.new.self.journal.entries in
    let most = g.E.BusEnd.links c.args.end.now in
    on_ok_weaker c.abort.result
    (λ a n far was. begins_none most k l (begun_aborted k l a.aborts) n far (c.in_ok-gather.ensures.within n far was))
    c.abort.ensures.aborts

-- `asked` proves nothing here: by it a wrong body is refused with values
pub returns-then-ordered-clause-opens : goal.returns-then-ordered-clause-opens
returns-then-ordered-clause-opens g c =
    let P : ℕ → Type 0 = λ n. g.B.Board.orders_are c.args.board.now n c.orders-ordered.result in
    let are = subst P (c.number.ensures ∙ c.gather.ensures.stays.node) c.orders-ordered.ensures.orders in
    let one = ap bit c.if-ordered.true in let asked : 0 < bit c.orders-ordered.result.abort = omega (arith, one) in
    let yes : c.orders-ordered.result.abort ≡ true = c.if-ordered.true in
    on_ok_weaker c.abort.result (λ a. record {
      taken = c.gather.new.self.journal.entries;
      items =
          c.in_ok-gather.ensures.items;
      aborts = a.aborts;
      orders = c.orders-ordered.result;
      are_orders = are;
      unasked =
          λ no. let e : true ≡ false = sym yes ∙ no in absurd cc;
      applied = λ ordered. a.is;
    }) c.abort.ensures.aborts

pub returns-else-ordered-clause-opens : goal.returns-else-ordered-clause-opens
returns-else-ordered-clause-opens g c =
    let k = c.gather.new.self.journal.entries in
    let P : ℕ → Type 0 = λ n. g.B.Board.orders_are c.args.board.now n c.orders-ordered.result in
    let are = subst P (c.number.ensures ∙ c.gather.ensures.stays.node) c.orders-ordered.ensures.orders in
    let no : c.orders-ordered.result.abort ≡ false = c.if-ordered.false in
    record {
      taken = k;
      items = c.in_ok-gather.ensures.items;
      aborts =
          record { changed = false; whole = sym (append-nil k) };
      orders = c.orders-ordered.result;
      are_orders = are;
      unasked = λ no. refl;
      applied = λ ordered. let e : true ≡ false = sym ordered ∙ no in absurd cc;
    }

pub returns-then-ordered-clause-untold : goal.returns-then-ordered-clause-untold
returns-then-ordered-clause-untold g c =
    on_ok_weaker c.abort.result (λ a. takes_then c.args.self.now c.gather.new.self c.abort.new.self
    c.in_ok-gather.ensures.untold c.in_ok-gather.ensures.items a) c.abort.ensures.untold

pub returns-else-ordered-clause-untold : goal.returns-else-ordered-clause-untold
returns-else-ordered-clause-untold g c =
    takes_then c.args.self.now c.gather.new.self c.gather.new.self c.in_ok-gather.ensures.untold
    c.in_ok-gather.ensures.items (aborts_none c.gather.new.self c.gather.new.self refl refl)

pub returns-then-ordered-clause-stops : goal.returns-then-ordered-clause-stops
returns-then-ordered-clause-stops g c =
    let E = g.E.BusEnd in let mid = c.gather.new.self in
    let O : ℕ → Type 0 = λ n. g.B.Board.orders_are c.args.board.now n c.orders-ordered.result in
    let are = subst O (c.number.ensures ∙ c.gather.ensures.stays.node) c.orders-ordered.ensures.orders in
    let yes : c.orders-ordered.result.abort ≡ true = c.if-ordered.true in
    err_both c.abort.result
    (λ due f full. inr (full_for_abort E c.args.self.now mid c.abort.new.self c.args.end.now
    c.gather.new.end f c.gather.ensures.stays.node c.gather.ensures.stays.room c.in_ok-gather.ensures.items
    c.in_ok-gather.ensures.goes c.in_ok-gather.ensures.within
    (g.B.Board.orders_are c.args.board.now (link_of c.args.self.now.ledger).node) c.orders-ordered.result are
    yes due full))
    c.abort.ensures.due c.abort.ensures.full

pub returns-then-ordered-clause-facts : goal.returns-then-ordered-clause-facts
returns-then-ordered-clause-facts g c =
    let F : ℕ → Type 0 = λ n. g.B.Board.facts c.args.board.now n in
    on_ok_weaker c.abort.result
    (λ a. subst F (c.number.ensures ∙ c.gather.ensures.stays.node) c.orders-ordered.ensures.facts)
    c.abort.ensures.aborts

pub returns-else-ordered-clause-facts : goal.returns-else-ordered-clause-facts
returns-else-ordered-clause-facts g c =
    let F : ℕ → Type 0 = λ n. g.B.Board.facts c.args.board.now n in
    subst F (c.number.ensures ∙ c.gather.ensures.stays.node) c.orders-ordered.ensures.facts
