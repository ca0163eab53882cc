-- What a log says of a node is a function of its journal and of the steps of its driver.
use Rattle.std.proofs.Common.{◌≡◌, ◌<◌, ◌+◌, ℕ, suc, List, [], ◌∷◌, ◌++◌, length, refl, sym, ap, ◌∙◌, subst, arith}
use Rattle.std.proofs.Common.{append_assoc}
use Rattle.std.specs.Prelude.{slice_index_or}
use Rattle.std.proofs.lemmas.List.{length-map}
use Rattle.lemmas.proofs.Lists.{append-split}
use Rattle.sja_journal.specs.declared.down.Down.{Down}
use Rattle.sja_journal.specs.declared.down.Down.TheVariants.{Message, Off}
use Rattle.sja_journal.specs.declared.entry.Entry.{Entry}
use Rattle.sja_journal.specs.Carried.{put_of}
use Rattle.sja_journal.specs.Lists.{messages}
use Rattle.sja_journal.specs.Parts.{part}
use Rattle.sja_journal.specs.Verdicts.{IsLawful}
use Rattle.sja_bus_rules.specs.Lawful.{CountersAre}
use Rattle.sja_driver.specs.TypedActs.{TypedAct}
use Rattle.sja_log.specs.Log.{ActivationValue, NodeValue}
use Rattle.sja_promises.specs.Runs.{IsNodeRun}
use Rattle.sja_promises.specs.Settling.{IsSettled}

-- ---- lists

pub lists_once : {A : Type 0} (xs ys : List A) → length xs ≡ length ys →
    ((k : ℕ) (d : A) → k < length xs → slice_index_or xs k d ≡ slice_index_or ys k d) → xs ≡ ys
lists_once [] [] count same = refl
lists_once [] (y ∷ ys) count same = absurd (omega (arith, count))
lists_once (x ∷ xs) [] count same = absurd (omega (arith, count))
lists_once (x ∷ xs) (y ∷ ys) count same =
    let first = same 0 x (omega arith) in
    let rest = lists_once xs ys (omega (arith, count)) (λ k d less. same (suc k) d (omega (arith, less))) in
    λ i. first i ∷ rest i

messages_both : (xs ys : List Down) → messages (xs ++ ys) ≡ messages xs ++ messages ys
messages_both [] ys = refl
messages_both (Message m ∷ xs) ys = ap (λ l. m ∷ l) (messages_both xs ys)
messages_both (Off ∷ xs) ys = messages_both xs ys

-- ---- an activation

-- what was released and what was left unread are the messages that were put
all_told : (j : List Entry) (a : ℕ) (x : ActivationValue) → IsSettled j a x →
    x.released ++ x.unread ≡ messages (put_of (part j a))
all_told j a x h =
    ap (λ l. x.released ++ l) h.unread ∙ sym (append_assoc x.released h.held (messages h.down))
    ∙ ap (λ l. l ++ messages h.down) (sym h.holds) ∙ sym (messages_both h.driver.got h.down) ∙ ap messages (sym h.put)

activation_once : (j : List Entry) (a : ℕ) (x y : ActivationValue) → IsSettled j a x → IsSettled j a y →
    length x.released ≡ length y.released → x ≡ y
activation_once j a x y h g long =
    let parts = append-split x.released x.unread y.released y.unread long (all_told j a x h ∙ sym (all_told j a y g)) in
    λ i. record { released = parts.0 i; unread = parts.1 i }

-- ---- a node

module _ (version : ℕ) (m n : NodeValue) (acts : List TypedAct) (h : IsNodeRun version m acts)
    (g : IsNodeRun version n acts) (journal : m.journal ≡ n.journal) (lawful : IsLawful m.journal) where
  counters : CountersAre m.journal n.txerr n.rxerr
  counters = subst (λ (j : List Entry). CountersAre j n.txerr n.rxerr) (sym journal) g.counters

  activations : m.activations ≡ n.activations
  activations = lists_once m.activations n.activations (h.trace.opened ∙ sym g.trace.opened) one
    where
      one : (a : ℕ) (d : ActivationValue) → a < length m.activations →
          slice_index_or m.activations a d ≡ slice_index_or n.activations a d
      one a d less =
          let x = slice_index_or m.activations a d in
          let y = slice_index_or n.activations a d in
          let o = h.trace.opened in
          let p = g.trace.opened in
          let few : a < length n.activations = omega (arith, less, o, p) in
          let long : length x.released ≡ length y.released =
          sym (length-map x.released (λ (l : List ℕ). length l))
          ∙ ap (λ (l : List ℕ). length l) (sym (h.trace.released a d less) ∙ g.trace.released a d few)
          ∙ length-map y.released (λ (l : List ℕ). length l) in
          activation_once m.journal (a + 1) x y (h.settled a d less)
          (subst (λ (j : List Entry). IsSettled j (a + 1) y) (sym journal) (g.settled a d few)) long

  pub node_once : m.done ≡ n.done → m ≡ n
  node_once done =
      let a = h.counters lawful.found lawful.cut in
      let b = counters lawful.found lawful.cut in
      let tx = a.0 ∙ sym b.0 in
      let rx = a.1 ∙ sym b.1 in
      λ i. record {
        journal = journal i;
        txerr = tx i;
        rxerr = rx i;
        done = done i;
        activations = activations i;
      }
