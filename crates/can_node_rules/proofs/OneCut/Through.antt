-- A cut of a longer record goes through the place where the cut of a front of it is open.
use Rattle.std.proofs.Common.{◌≡◌, List, ◌++◌, refl, sym, ap, ◌∙◌, subst, append_assoc}
use Rattle.std.proofs.lemmas.List.{append_cancel_left}
use Rattle.can_node_rules.specs.Context.{ContextValue}
use Rattle.can_node_rules.specs.Pieces.{Place}
use Rattle.can_node_rules.specs.Record.{RecordEntry}
use Rattle.can_node_rules.specs.FinishedPieces.{FinishedPiece, Count, counted, tagged}
use Rattle.can_node_rules.specs.Cut.{From}
use Rattle.can_node_rules.specs.Cut.From.{here, on}
use Rattle.can_node_rules.proofs.OneCut.GoOn.{counted_both}
use Rattle.can_node_rules.proofs.OneCut.MoveOnce.{move_once}
use Rattle.can_node_rules.proofs.OneCut.CutOnce.{move_or_open}

-- from the place where the front is open the longer cut goes on, with the pieces after those of the front
pub record Through (k : Count) (entries : List RecordEntry) (found : List FinishedPiece)
    (end : ContextValue) (last : Place)
    (rest x : List RecordEntry) (others : List FinishedPiece) (other : ContextValue) (another : Place)
    (more : List RecordEntry) :
    Type 0 where
  pub count : Count
  pub later : List FinishedPiece
  pub counts : counted count rest ≡ counted k entries
  pub whole : others ≡ found ++ later
  pub from : From count end last (rest ++ x) later other another more

pub goes_through : (k : Count) (c end other : ContextValue) (place last another : Place)
    (entries again rest x more : List RecordEntry) (found others : List FinishedPiece) →
    From k c place entries found end last rest → From k c place again others other another more → again ≡ entries ++ x →
    Through k entries found end last rest x others other another more
goes_through k c end other place last another entries again rest x more found others (here opened stays) from e =
    let P : List RecordEntry → Type 0 = λ l. From k c place l others other another more in
    record { count = k; later = others; counts = refl; whole = refl; from = subst P e from }
goes_through k c end other place last another entries again rest x more found others
    (on {next = next} {site = site} {entries = first} {more = later} {ps = ps} move from) (here opened stays) e =
    absurd (move_or_open c next place site first again (later ++ x) ps move opened (e ∙ append_assoc first later x))
goes_through k c end other place last another entries again rest x more found others
    (on {next = next} {site = site} {entries = a} {more = m} {ps = ps} {qs = found_later} move from)
    (on {next = after_it} {site = there} {entries = b} {more = y} {ps = qs} {qs = others_later} second on_from) e =
    let whole : a ++ (m ++ x) ≡ b ++ y = sym (append_assoc a m x) ∙ sym e in
    let same = move_once c next after_it place site there a b (m ++ x) y ps qs move second whole in
    let count = ap (counted k) same.0 in
    let rests = append_cancel_left b (m ++ x) y (ap (λ l. l ++ (m ++ x)) (sym same.0) ∙ whole) in
    let P : Count → Type 0 = λ i. From i after_it there y others_later other another more in
    let Q : ContextValue → Type 0 = λ d. From (counted k a) d there y others_later other another more in
    let R : Place → Type 0 = λ s. From (counted k a) next s y others_later other another more in
    let moved : From (counted k a) next site y others_later other another more =
    subst R (sym same.3) (subst Q (sym same.2) (subst P (sym count) on_from)) in
    let t = goes_through (counted k a) next end other site last another m y rest x more found_later others_later from
    moved (sym rests) in
    let tags : tagged (counted k b) qs ≡ tagged (counted k a) ps =
    ap (λ i. tagged i qs) (sym count) ∙ ap (λ l. tagged (counted k a) l) (sym same.1) in
    record {
      count = t.count;
      later = t.later;
      counts = t.counts ∙ sym (counted_both k a m);
      whole = ap (λ l. l ++ others_later) tags ∙ ap (λ l. tagged (counted k a) ps ++ l) t.whole
          ∙ sym (append_assoc (tagged (counted k a) ps) found_later t.later);
      from = t.from;
    }
