-- The links of two nodes, as drivers and bus leave them: each keeps its node, and has one link.
use Rattle.std.proofs.Common.{◌≡◌, ◌∙◌, ◌<◌, ◌++◌, ℕ, List, length, take, drop, refl, sym, ap, subst, arith}
use Rattle.std.proofs.Common.{slice_index_or, slice_set}
use Rattle.std.proofs.Math.Seq.{take-append_seam}
use Rattle.lemmas.specs.Related.{EachRelated}
use Rattle.lemmas.proofs.Related.{each_one}
use Rattle.sja_link.specs.Deques.{AreAlike, Deques}
use Rattle.sja_journal.specs.Links.{AreEnds, HaveLinks}
use Rattle.sja_link.specs.NewLinks.{AreNewLinks}
use Rattle.sja_bus.proofs.AllNodes.Many.{ends_kept, links_kept}

abbrev node_of : Deques → ℕ
node_of links = links.node

abbrev starts_of : Deques → ℕ
starts_of links = links.starts

pub record AreOfTwo (links : List Deques) : Type 0 where
  pub ends : AreEnds node_of 2 links
  pub many : HaveLinks starts_of 1 links

-- new ones are those of two nodes
pub when_new : (links : List Deques) → AreNewLinks 2 1 links → AreOfTwo links
when_new links new = record {
  ends = record { count = new.count; own = λ node d few. ap node_of (new.each node d few) };
  many = λ k d few. ap starts_of (new.each k d (let two = new.count in omega (arith, two, few)));
}

-- they are still where each is the same link, as after bits
pub when_same : (links now : List Deques) → EachRelated AreAlike links now → AreOfTwo links → AreOfTwo now
when_same links now sames are = record {
  ends = ends_kept node_of AreAlike (λ x y same. same.0) links now 2 2 refl sames are.ends;
  many = links_kept starts_of AreAlike (λ x y same. same.1) 1 1 links now refl sames are.many;
}

-- and where one is, as after a call of its driver
pub when_one : (links : List Deques) (place : ℕ) (was now : Deques) → place < length links →
    was ≡ slice_index_or links place was → AreAlike was now → AreOfTwo links → AreOfTwo (slice_set links place now)
when_one links place was now few here same are =
    when_same links (slice_set links place now) (each_one AreAlike (λ x. (refl, refl)) links place was now few
    (subst (λ (x : Deques). AreAlike x now) here same)) are

-- whose the links at a place are
pub own_node : (links : List Deques) (node : ℕ) (here : Deques) → AreOfTwo links → node < 2 →
    here ≡ slice_index_or links node here → here.node ≡ node
own_node links node here are few is = ap node_of is ∙ are.ends.own node here few

-- what a vector has at a place, after these were written over all that it had
pub written : (old now : List Deques) (count place : ℕ) (here : Deques) → length now ≡ count →
    here ≡ slice_index_or (take count (now ++ drop (length now) old)) place here → here ≡ slice_index_or now place here
written old now count place here whole is =
    let rest = drop (length now) old in
    let all : take count (now ++ rest) ≡ now = ap (λ n. take n (now ++ rest)) (sym whole) ∙ take-append_seam now rest in
    is ∙ ap (λ l. slice_index_or l place here) all
