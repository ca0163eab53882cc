use Rattle.std.proofs.Common.{◌≡◌, sym, subst, refl, ◌∙◌, inl, inr, false}
use Rattle.toml_parser.specs.Reading.{key_view}
use Rattle.toml_parser.specs.Strings.{recursion_limit}
use Rattle.toml.specs.Data.{boolean}
use Rattle.toml.specs.Parse.{val}
use Rattle.toml.proofs.Turns.{keyval_ok}
use Rattle.sja_plan_reading.specs.Inside.Rooms.{section_in}
use Rattle.sja_plan_reading.specs.Inside.Values.{IsOddAt}
use Rattle.sja_plan_reading.proofs.OddPairs.{odd_by}
use Rattle.sja_plan_reading.proofs.tables.reading.read_pair.Goals as goal

pub returns-clause-ok : goal.returns-clause-ok
returns-clause-ok c =
    let k = key_view c.in_ok-key.key in
    let (d, read) = c.in_ok-rest.ensures.value in (
      k,
      d,
      keyval_ok (val recursion_limit) c.args.text.now c.in_ok-key.value.now c.in_ok-rest.rest.now k d
          c.in_ok-key.ensures.value read,
      record {
        items = c.look.ensures.items ∙ c.in_ok-pair.ensures.items;
        section = c.look.ensures.section ∙ c.in_ok-pair.ensures.section;
        sound = c.look.ensures.sound;
        odd = λ seen. elim (c.in_ok-look.ensures.odd seen) [
          | inl before ↦ inl (sym c.in_ok-pair.ensures.odd ∙ before)
          | inr begins ↦
              inr (
                d,
                refl,
                odd_by (section_in c.args.room.now) k.0 k.1 (boolean false) d d
                    (subst (λ i. IsOddAt i d) c.in_ok-pair.ensures.is (begins d c.in_ok-rest.rest.now read)),
              )
        ];
      },
    )
