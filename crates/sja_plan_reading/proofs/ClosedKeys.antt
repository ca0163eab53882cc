-- The members that nodes stand for, by their keys.
use Rattle.std.proofs.Common.{◌≡◌, Bool, true, false, ◌&&◌, List, Some, refl, sym, ap, inl, inr, nat_cmp}
use Rattle.std.specs.Cmp.Lexicographic.{slice_cmp}
use Rattle.std.specs.List.{list_any}
use Rattle.std.specs.Str.{bytes_eq}
use Rattle.std.proofs.lemmas.Bool.{false≢true}
use Rattle.std.proofs.lemmas.Map.Lookups.{exact_bytes}
use Rattle.std.proofs.lemmas.Option.{none-some, same_Some}
use Rattle.toml.specs.Data.{Data, Members, no_members, member, get_member}
use Rattle.toml.specs.Tables.{Node, Nodes, no_nodes, node, close, close_node, get_node}
use Rattle.sja_plan_reading.specs.Words.{Text}
use Rattle.sja_plan_reading.specs.Document.{knows}
use Rattle.sja_plan_reading.proofs.ByKey.{cases_ordering}

-- the members of what nodes stand for
pub close_get : (k : Text) (ns : Nodes) (x : Node) → get_node k ns ≡ Some x →
    get_member k (close ns) ≡ Some (close_node x)
close_get k no_nodes x is = absurd (none-some x is)
close_get k (node l y ns) x is =
    elim (cases_ordering (slice_cmp nat_cmp k l)) [
      | inl less ↦ rw less (close_get k ns x (rw less at is))
      | inr more ↦ elim more [
        | inl tie ↦ rw tie (ap (λ n. Some (close_node n)) (same_Some y x (rw tie at is)))
        | inr greater ↦ rw greater (close_get k ns x (rw greater at is))
      ]
    ]

both_front : (a b : Bool) → a && b ≡ true → a ≡ true
both_front true b e = refl
both_front false b e = absurd (false≢true e)

both_back : (a b : Bool) → a && b ≡ true → b ≡ true
both_back true b e = e
both_back false b e = absurd (false≢true e)

-- where all keys are known, each is
pub each_known : (allowed : List Text) (ms : Members) (k : Text) (d : Data) → get_member k ms ≡ Some d →
    knows allowed ms ≡ true →
    list_any (λ a. bytes_eq a k) allowed ≡ true
each_known allowed no_members k d is known = absurd (none-some d is)
each_known allowed (member l e ms) k d is known =
    let here = both_front (list_any (λ a. bytes_eq a l) allowed) (knows allowed ms) known in
    let later = both_back (list_any (λ a. bytes_eq a l) allowed) (knows allowed ms) known in
    elim (cases_ordering (slice_cmp nat_cmp k l)) [
      | inl less ↦ each_known allowed ms k d (rw less at is) later
      | inr more ↦ elim more [
        | inl tie ↦ rw (exact_bytes k l tie) here
        | inr greater ↦ each_known allowed ms k d (rw greater at is) later
      ]
    ]
