-- One node of many.
use Rattle.std.proofs.Common.{◌≡◌, ℕ, suc, ◌+◌, ◌<◌, ◌≤◌, List, length, refl, sym, ap, ◌∙◌, subst, arith, inl, inr}
use Rattle.std.specs.Prelude.{slice_index_or, slice_set}
use Rattle.std.proofs.Math.ListN.{length-set}
use Rattle.std.proofs.lemmas.Bool.{cases_eq}
use Rattle.std.proofs.lemmas.Slice.Zip.{AllZip-long as each_length}
use Rattle.std.proofs.lemmas.List.{get_or-set_same as set_here, get_or-set_other as set_else, get_or_default as or_same}
use Rattle.sja_journal.specs.Lists.{Lists}
use Rattle.lemmas.specs.Related.{EachRelated}
use Rattle.lemmas.proofs.Related.{each_refl, each_trans, each_one, each_at}
use Rattle.sja_bus.specs.declared.bus_node.BusNode.{BusNode}
use Rattle.sja_link.proofs.Growing.Moving.{grows_refl, grows_trans}
use Rattle.sja_journal.specs.Links.{Grows, Kept, AreEnds, HaveLinks}
use Rattle.sja_link.specs.Moving.{Goes}
use Rattle.sja_bus.specs.Inside.Rows.{IsOf, AreReady, GoesAll, EachBusNode, Done}

pub goes_all_refl : {E : Type 0} (same : E → E → Type 0) (stands : E → ℕ → Lists → Type 0) → ((x : E) → same x x) →
    (bus_nodes : List BusNode) (links : List E) → GoesAll same stands bus_nodes bus_nodes links links
goes_all_refl same stands r bus_nodes links = record {
  sames = each_refl same r links;
  kept = λ k s d h l was. was;
  grows = λ k s l. grows_refl (slice_index_or bus_nodes k s).journal.entries;
}

-- one end more was exchanged for one that is the same
pub sames_one : {E : Type 0} (same : E → E → Type 0) → ((x : E) → same x x) →
    ((x y z : E) → same x y → same y z → same x z) → (links here : List E) (k : ℕ) (d end : E) → k < length here →
    EachRelated same links here → same (slice_index_or here k d) end → EachRelated same links (slice_set here k end)
sames_one same r t links here k d end near p q =
    each_trans same t links here (slice_set here k end) p (each_one same r here k d end near q)

-- the links of one more moved with its journal
pub goes_all_one : {E : Type 0} (same : E → E → Type 0) (stands : E → ℕ → Lists → Type 0) → ((x : E) → same x x) →
    ((x y z : E) → same x y → same y z → same x z) → (bus_nodes now : List BusNode) (links here : List E)
    (k : ℕ) (s new : BusNode) (d end : E) → k < length now → k < length here → length now ≡ length bus_nodes →
    GoesAll same stands bus_nodes now links here →
    Goes same stands (slice_index_or here k d) end (slice_index_or now k s).journal.entries new.journal.entries →
    GoesAll same stands bus_nodes (slice_set now k new) links (slice_set here k end)
goes_all_one {E} same stands r t bus_nodes now links here k s new d end few near len p q = record {
  sames = sames_one same r t links here k d end near p.sames q.is_same;
  kept = λ m e b h l was. elim (cases_eq k m) [
    | inl eq ↦
        let bus_node_now : slice_index_or (slice_set now k new) m e ≡ new =
        ap (λ n. slice_index_or (slice_set now k new) n e) (sym eq) ∙ set_here now k new e few in
        let end_now : slice_index_or (slice_set here k end) m b ≡ end =
        ap (λ n. slice_index_or (slice_set here k end) n b) (sym eq) ∙ set_here here k end b near in
        let bus_node_was : slice_index_or now m e ≡ slice_index_or now k s = ap (λ n. slice_index_or now n e) (sym eq)
        ∙ or_same now k e s few in
        let end_was : slice_index_or here m b ≡ slice_index_or here k d = ap (λ n. slice_index_or here n b) (sym eq)
        ∙ or_same here k b d near in
        let S : E → BusNode → Type 0 = λ x y. Kept stands y.journal.entries x h in
        let at = subst (λ (y : BusNode). S (slice_index_or here k d) y) bus_node_was
        (subst (λ (x : E). S x (slice_index_or now m e)) end_was (p.kept m e b h l was)) in
        subst (λ (y : BusNode). S (slice_index_or (slice_set here k end) m b) y) (sym bus_node_now)
        (subst (λ (x : E). S x new) (sym end_now) (q.kept h at))
    | inr ne ↦
        let bus_node_still : slice_index_or (slice_set now k new) m e ≡ slice_index_or now m e =
        set_else now k m new e (λ x. ne (sym x)) in
        let end_still : slice_index_or (slice_set here k end) m b ≡ slice_index_or here m b =
        set_else here k m end b (λ x. ne (sym x)) in
        rw (bus_node_still, end_still) (p.kept m e b h l was)
  ];
  grows = λ m e l. elim (cases_eq k m) [
    | inl eq ↦
        let e1 : slice_index_or (slice_set now k new) m e ≡ new =
        ap (λ n. slice_index_or (slice_set now k new) n e) (sym eq) ∙ set_here now k new e few in
        let at : slice_index_or now m e ≡ slice_index_or now k s = ap (λ n. slice_index_or now n e) (sym eq)
        ∙ or_same now k e s few in
        let was : Grows (slice_index_or bus_nodes m e).journal.entries (slice_index_or now k s).journal.entries =
        subst (λ (x : BusNode). Grows (slice_index_or bus_nodes m e).journal.entries
        x.journal.entries) at (p.grows m e l) in
        subst (λ (x : BusNode). Grows (slice_index_or bus_nodes m e).journal.entries x.journal.entries) (sym e1)
        (grows_trans (slice_index_or bus_nodes m e).journal.entries (slice_index_or now k s).journal.entries
        new.journal.entries was q.grows)
    | inr ne ↦
        let e1 : slice_index_or (slice_set now k new) m e ≡ slice_index_or now m e =
        set_else now k m new e (λ x. ne (sym x)) in
        subst (λ (x : BusNode). Grows (slice_index_or bus_nodes m e).journal.entries x.journal.entries)
        (sym e1) (p.grows m e l)
  ];
}

pub ready_one : (bus_nodes : List BusNode) (k : ℕ) (new : BusNode) → k < length bus_nodes → AreReady bus_nodes →
    IsOf new k →
    AreReady (slice_set bus_nodes k new)
ready_one bus_nodes k new few was is m s l = elim (cases_eq k m) [
  | inl eq ↦
      let e1 : slice_index_or (slice_set bus_nodes k new) m s ≡ new =
      ap (λ n. slice_index_or (slice_set bus_nodes k new) n s) (sym eq) ∙ set_here bus_nodes k new s few in
      subst (λ (x : BusNode). IsOf x m) (sym e1) (subst (λ (n : ℕ). IsOf new n) eq is)
  | inr ne ↦
      let e1 : slice_index_or (slice_set bus_nodes k new) m s ≡ slice_index_or bus_nodes m s =
      set_else bus_nodes k m new s (λ x. ne (sym x)) in
      subst (λ (x : BusNode). IsOf x m) (sym e1) (was m s (rw length-set at l))
]

-- ends that are the same still are those of the nodes
pub ends_kept : {E : Type 0} (node_of : E → ℕ) (same : E → E → Type 0) →
    ((x y : E) → same x y → node_of y ≡ node_of x) → (links after : List E) (n m : ℕ) → m ≡ n →
    EachRelated same links after → AreEnds node_of n links → AreEnds node_of m after
ends_kept node_of same f links after n m is rel ends =
    let long = each_length same links after rel in let count = ends.count in record {
      count = omega (arith, long, count, is);
      own = λ k d few. each_at same node_of f links after k d rel ∙ ends.own k d (omega (arith, few, is));
    }

-- and have as many links as the bus was made for
pub links_kept : {E : Type 0} (links_of : E → ℕ) (same : E → E → Type 0) →
    ((x y : E) → same x y → links_of y ≡ links_of x) → (starts now : ℕ) (links after : List E) → now ≡ starts →
    EachRelated same links after → HaveLinks links_of starts links → HaveLinks links_of now after
links_kept links_of same f starts now links after is rel many k d few =
    let long = each_length same links after rel in
    each_at same links_of f links after k d rel ∙ many k d (omega (arith, long, few)) ∙ sym is

pub goes_all_trans : {E : Type 0} (same : E → E → Type 0) (stands : E → ℕ → Lists → Type 0) →
    ((x y z : E) → same x y → same y z → same x z) → (a b c : List BusNode) (x y z : List E) → length b ≡ length a →
    GoesAll same stands a b x y → GoesAll same stands b c y z → GoesAll same stands a c x z
goes_all_trans same stands t a b c x y z len p q = record {
  sames = each_trans same t x y z p.sames q.sames;
  kept = λ k s d h few was. q.kept k s d h (rw len few) (p.kept k s d h few was);
  grows = λ k s few. grows_trans (slice_index_or a k s).journal.entries (slice_index_or b k s).journal.entries
      (slice_index_or c k s).journal.entries (p.grows k s few) (q.grows k s (rw len few));
}

-- ---- the bus nodes so far: those before k have what each does, the others are as they were

pub done_none : (R : ℕ → BusNode → BusNode → Type 0) (bus_nodes : List BusNode) → Done R 0 bus_nodes bus_nodes
done_none R bus_nodes m s l = ((λ none. absurd (omega arith)), (λ all. refl))

pub done_one : (R : ℕ → BusNode → BusNode → Type 0) (k : ℕ) (before after : List BusNode) (s new : BusNode) →
    k < length before →
    length after ≡ length before →
    R k (slice_index_or after k s) new → Done R k before after → Done R (k + 1) before (slice_set after k new)
done_one R k before after s new few len does h m e l = elim (cases_eq k m) [
  | inl eq ↦
      let e1 : slice_index_or (slice_set after k new) m e ≡ new =
      ap (λ n. slice_index_or (slice_set after k new) n e) (sym eq)
      ∙ set_here after k new e (omega (arith, few, len)) in
      let was : slice_index_or after k s ≡ slice_index_or before m e = or_same after k s e (omega (arith, few, len))
      ∙ ap (λ n. slice_index_or after n e) eq ∙ (h m e l).1 (omega (arith, eq)) in
      let P : BusNode → Type 0 = λ x. R m (slice_index_or before m e) x in
      let Q : BusNode → Type 0 = λ x. R m x new in
      let S : ℕ → Type 0 = λ n. R n (slice_index_or after k s) new in (
        (λ _. subst P (sym e1) (subst Q was (subst S eq does))),
        (λ far. absurd (omega (arith, far, eq))),
      )
  | inr ne ↦
      let e1 : slice_index_or (slice_set after k new) m e ≡ slice_index_or after m e =
      set_else after k m new e (λ x. ne (sym x)) in
      let P : BusNode → Type 0 = λ x. R m (slice_index_or before m e) x in (
        (λ near. subst P (sym e1) ((h m e l).0 (omega (arith, near, ne)))),
        (λ far. e1 ∙ (h m e l).1 (omega (arith, far))),
      )
]

pub done_all : (R : ℕ → BusNode → BusNode → Type 0) (k : ℕ) (before after : List BusNode) → length before ≤ k →
    Done R k before after → EachBusNode R before after
done_all R k before after all h m s few = (h m s few).0 (omega (arith, all, few))

-- the same by another relation that follows at each place so far
pub done_before : {R S : ℕ → BusNode → BusNode → Type 0} (k : ℕ) (before after : List BusNode) →
    ((m : ℕ) → m < k → (s t : BusNode) → R m s t → S m s t) → Done R k before after → Done S k before after
done_before k before after f h m s few = (
  (λ near. f m near (slice_index_or before m s) (slice_index_or after m s)
      ((h m s few).0 near)),
  (h m s few).1,
)

-- ---- the links read so far show nothing

pub dry_one : {E : Type 0} (dry : E → ℕ → Type 0) (bus_nodes : List BusNode) (links : List E) (k : ℕ) (new : BusNode)
    (end : E) →
    k < length bus_nodes → k < length links → dry end (suc new.ended) →
    ((m : ℕ) (s : BusNode) (d : E) → m < k → dry (slice_index_or links m d) (suc (slice_index_or bus_nodes m s).ended))
    →
    (m : ℕ) (s : BusNode) (d : E) → m < k + 1 →
    dry (slice_index_or (slice_set links k end) m d) (suc (slice_index_or (slice_set bus_nodes k new) m s).ended)
dry_one {E} dry bus_nodes links k new end few near here was m s d l = elim (cases_eq k m) [
  | inl eq ↦
      let bus_node_now : slice_index_or (slice_set bus_nodes k new) m s ≡ new =
      ap (λ n. slice_index_or (slice_set bus_nodes k new) n s) (sym eq) ∙ set_here bus_nodes k new s few in
      let end_now : slice_index_or (slice_set links k end) m d ≡ end =
      ap (λ n. slice_index_or (slice_set links k end) n d) (sym eq) ∙ set_here links k end d near in
      subst (λ (x : BusNode). dry (slice_index_or (slice_set links k end) m d) (suc x.ended)) (sym bus_node_now)
      (subst (λ (x : E). dry x (suc new.ended)) (sym end_now) here)
  | inr ne ↦
      let bus_node_still : slice_index_or (slice_set bus_nodes k new) m s ≡ slice_index_or bus_nodes m s =
      set_else bus_nodes k m new s (λ x. ne (sym x)) in
      let end_still : slice_index_or (slice_set links k end) m d ≡ slice_index_or links m d =
      set_else links k m end d (λ x. ne (sym x)) in
      rw (bus_node_still, end_still) (was m s d (omega (arith, l, ne)))
]
