-- What `filter` and four texts ask for.
use Rattle.std.proofs.Common.{◌≡◌, Bool, [], ◌∷◌, codes, refl, false, true, None, Some, ◌∙◌, sym, ap}
use Rattle.std.specs.Prelude.{option_map}
use Rattle.std.proofs.lemmas.Slice.Eq.{bytes_eq-Decides}
use Rattle.std.specs.Str.{bytes_eq}
use Rattle.clap.specs.Words.{Text}
use Rattle.sja_command_line.specs.Values.{HasNoFlag, begins_with_hyphen, single_in}
use Rattle.sja_command_line.specs.Requests.{Request, filter}
use Rattle.sja_command_line.specs.Words.{ParsesAs, asked, faults}
use Rattle.sja_command_line.proofs.LiteralWords.NoFlag.{each_of, no_dashes, no_hyphen}
use Rattle.sja_command_line.proofs.LiteralWords.OnWords.{sja_on_literals}

-- of four texts behind `filter`, of which none begins with `-`, none is refused, and they ask for this
of_four : (name a b c d : Text) → begins_with_hyphen a ≡ false → begins_with_hyphen b ≡ false
    → begins_with_hyphen c ≡ false → begins_with_hyphen d ≡ false →
    (faults (name ∷ codes "filter" ∷ a ∷ b ∷ c ∷ d ∷ []) ≡ [])
    × (asked (name ∷ codes "filter" ∷ a ∷ b ∷ c ∷ d ∷ []) ≡ option_map (λ single. filter single b c d) (single_in a))
unfolding sja_on_literals faults asked
of_four name a b c d ha hb hc hd =
    rw (no_dashes a ha, no_hyphen a ha, no_hyphen a ha)
    (rw (no_dashes b hb, no_hyphen b hb, no_hyphen b hb)
    (rw (no_dashes c hc, no_hyphen c hc, no_hyphen c hc)
    (rw (no_dashes d hd, no_hyphen d hd, no_hyphen d hd) (refl, refl))))

-- with a mode in the first place
pub filtering : (name mode acr amr message : Text) (is_single : Bool) → begins_with_hyphen mode ≡ false →
    single_in mode ≡ Some is_single → HasNoFlag (acr ∷ amr ∷ message ∷ []) →
    ParsesAs (name ∷ codes "filter" ∷ mode ∷ acr ∷ amr ∷ message ∷ []) (filter is_single acr amr message)
filtering name mode acr amr message is_single m is h =
    let first = each_of acr (amr ∷ message ∷ []) h in
    let second = each_of amr (message ∷ []) first.1 in
    let third = each_of message [] second.1 in
    let four = of_four name mode acr amr message m first.0 second.0 third.0 in
    record { taken = four.0; asks = four.1 ∙ ap (option_map (λ single. filter single acr amr message)) is }

-- two texts that differ
unequal : (a b : Text) → ¬ (a ≡ b) → bytes_eq a b ≡ false
unequal a b differ = go (bytes_eq a b) refl
  where
    go : (t : Bool) → bytes_eq a b ≡ t → bytes_eq a b ≡ false
    go true is = absurd (differ ((bytes_eq-Decides a b).0 is))
    go false is = is

-- with no mode there
pub no_mode : (name mode acr amr message : Text) (r : Request) → ¬ (mode ≡ codes "single") → ¬ (mode ≡ codes "dual") →
    HasNoFlag (mode ∷ acr ∷ amr ∷ message ∷ []) →
    ¬ ParsesAs (name ∷ codes "filter" ∷ mode ∷ acr ∷ amr ∷ message ∷ []) r
no_mode name mode acr amr message r not_single not_dual h parses =
    let m = each_of mode (acr ∷ amr ∷ message ∷ []) h in
    let first = each_of acr (amr ∷ message ∷ []) m.1 in
    let second = each_of amr (message ∷ []) first.1 in
    let third = each_of message [] second.1 in
    let none : single_in mode ≡ None =
    rw (unequal mode (codes "single") not_single, unequal mode (codes "dual") not_dual) refl in
    let nothing : None ≡ Some r = sym ((of_four name mode acr amr message m.0 first.0 second.0 third.0).1
    ∙ ap (option_map (λ single. filter single acr amr message)) none)
    ∙ parses.asks in
    cc
