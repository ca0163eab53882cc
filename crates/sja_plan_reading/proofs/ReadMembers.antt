-- How the pairs of an inline table make its definitions.
use Rattle.std.proofs.Common.{◌≡◌, ℕ, ◌-◌, ◌<◌, ◌==◌, true, false, List, [], ◌∷◌, ◌++◌, drop}
use Rattle.std.proofs.Common.{Option, Some, None, option_and_then, refl, sym, ap, ◌∙◌, inl, inr}
use Rattle.toml_parser.specs.Lexical.{Read, first, skip_blank}
use Rattle.toml_parser.specs.Strings.{Key}
use Rattle.toml.specs.Data.{Data}
use Rattle.toml.specs.Tables.{Nodes, no_nodes, close, put, along_header}
use Rattle.toml.specs.Parse.{keyval, members, after_element}
use Rattle.toml.proofs.Turns.{members_end, members_more, members_bad_put}
use Rattle.sja_plan_reading.specs.Inside.Items.{Item, run, apply}
use Rattle.sja_plan_reading.specs.Inside.Rooms.{pair_item}
use Rattle.sja_plan_reading.proofs.ByKey.{cases_option}
use Rattle.sja_plan_reading.proofs.OneKey.{run_more}

pub put_is : (k : Key) (d : Data) (ns : Nodes) → put k d ns ≡ apply (pair_item [] k d) ns
unfolding along_header
put_is k d ns = refl

module _ (val : List ℕ → Read Data) where
  member_by : (m : ℕ) (ns : Nodes) (text after next : List ℕ) (k : Key) (d : Data) → 0 < m →
      (first (skip_blank text) == 125) ≡ false →
      keyval val (skip_blank text) ≡ Some ((k, d), after) → after_element 125 after ≡ Some next →
      members val m ns text ≡ option_and_then (λ new. members val (m - 1) new next) (apply (pair_item [] k d) ns)
  member_by m ns text after next k d some other read ends =
      elim (cases_option (apply (pair_item [] k d) ns)) [
        | inl none ↦ rw none (members_bad_put val m ns text k d after some other read (put_is k d ns ∙ none))
        | inr found ↦
            let (new, is_new) = found in
            rw is_new (members_more val m ns new text k d after next some other read (put_is k d ns ∙ is_new) ends)
      ]

  then_member : (m : ℕ) (o : Option Nodes) (text after next : List ℕ) (k : Key) (d : Data) → 0 < m →
      (first (skip_blank text) == 125) ≡ false →
      keyval val (skip_blank text) ≡ Some ((k, d), after) → after_element 125 after ≡ Some next →
      option_and_then (λ ns. members val m ns text) o
      ≡ option_and_then (λ new. members val (m - 1) new next) (option_and_then (apply (pair_item [] k d)) o)
  then_member m None text after next k d some other read ends = refl
  then_member m (Some ns) text after next k d some other read ends =
      member_by m ns text after next k d some other read ends

  -- the pairs from a text on, behind these definitions
  abbrev pub MembersFrom : List ℕ → ℕ → ℕ → List Item → List ℕ → Type 0
  MembersFrom whole n m is text = members val n no_nodes whole ≡ option_and_then (λ ns. members val m ns text)
      (run is no_nodes)

  pub members_step : (whole : List ℕ) (n m : ℕ) (is : List Item) (text after next : List ℕ) (k : Key) (d : Data) →
      0 < m →
      (first (skip_blank text) == 125) ≡ false → keyval val (skip_blank text) ≡ Some ((k, d), after) →
      after_element 125 after ≡ Some next → MembersFrom whole n m is text →
      MembersFrom whole n (m - 1) (is ++ pair_item [] k d ∷ []) next
  members_step whole n m is text after next k d some other read ends so =
      so ∙ then_member m (run is no_nodes) text after next k d some other read ends
      ∙ ap (option_and_then (λ new. members val (m - 1) new next)) (sym (run_more is (pair_item [] k d) no_nodes))

  -- no pair is left
  pub members_over : (whole : List ℕ) (n m : ℕ) (is : List Item) (text : List ℕ) (ns : Nodes) → 0 < m →
      (first (skip_blank text) == 125) ≡ true → run is no_nodes ≡ Some ns → MembersFrom whole n m is text →
      members val n no_nodes whole ≡ Some (close ns, drop 1 (skip_blank text))
  members_over whole n m is text ns some closing goes so =
      so ∙ ap (option_and_then (λ new. members val m new text)) goes ∙ members_end val m ns text some closing
