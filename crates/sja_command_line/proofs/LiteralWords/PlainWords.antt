-- What some words ask for, by computing the parser's answer.
use Rattle.std.proofs.Common.{◌≡◌, ◌==◌, ℕ, List, [], ◌∷◌, codes, refl, false, true, Some}
use Rattle.clap.specs.declared.error.kind.ErrorKind.TheVariants.{DisplayVersion}
use Rattle.sja_command_line.specs.Requests.{Request, decode, encode, message, run, wave, trace, frames, check, live}
use Rattle.sja_command_line.specs.Words.{ParsesAs, asked, faults}
use Rattle.sja_command_line.proofs.LiteralWords.OnWords.{sja_on_literals}

-- `encode` and the empty text
pub empty_text : (name : List ℕ) → ParsesAs (name ∷ codes "encode" ∷ [] ∷ []) (encode [])
unfolding sja_on_literals asked faults
empty_text name = record { taken = refl; asks = refl }

-- `encode` and a text whose first byte is no `-`
asked_text : (name rest : List ℕ) (x : ℕ) → (x == 45) ≡ false →
    asked (name ∷ codes "encode" ∷ (x ∷ rest) ∷ []) ≡ Some (encode (x ∷ rest))
unfolding sja_on_literals asked
asked_text name rest x h = simp h

taken_text : (name rest : List ℕ) (x : ℕ) → (x == 45) ≡ false → faults (name ∷ codes "encode" ∷ (x ∷ rest) ∷ []) ≡ []
unfolding sja_on_literals faults
taken_text name rest x h = simp h

-- `decode` and the empty text
pub empty_line : (name : List ℕ) → ParsesAs (name ∷ codes "decode" ∷ [] ∷ []) (decode [])
unfolding sja_on_literals asked faults
empty_line name = record { taken = refl; asks = refl }

-- `decode` and a text whose first byte is no `-`
asked_line : (name rest : List ℕ) (x : ℕ) → (x == 45) ≡ false →
    asked (name ∷ codes "decode" ∷ (x ∷ rest) ∷ []) ≡ Some (decode (x ∷ rest))
unfolding sja_on_literals asked
asked_line name rest x h = simp h

taken_line : (name rest : List ℕ) (x : ℕ) → (x == 45) ≡ false → faults (name ∷ codes "decode" ∷ (x ∷ rest) ∷ []) ≡ []
unfolding sja_on_literals faults
taken_line name rest x h = simp h

pub line : (name rest : List ℕ) (x : ℕ) → (x == 45) ≡ false →
    ParsesAs (name ∷ codes "decode" ∷ (x ∷ rest) ∷ []) (decode (x ∷ rest))
line name rest x h = record { taken = taken_line name rest x h; asks = asked_line name rest x h }

-- `message` and the empty text
pub empty_form : (name : List ℕ) → ParsesAs (name ∷ codes "message" ∷ [] ∷ []) (message [])
unfolding sja_on_literals asked faults
empty_form name = record { taken = refl; asks = refl }

-- `message` and a text whose first byte is no `-`
asked_form : (name rest : List ℕ) (x : ℕ) → (x == 45) ≡ false →
    asked (name ∷ codes "message" ∷ (x ∷ rest) ∷ []) ≡ Some (message (x ∷ rest))
unfolding sja_on_literals asked
asked_form name rest x h = simp h

taken_form : (name rest : List ℕ) (x : ℕ) → (x == 45) ≡ false → faults (name ∷ codes "message" ∷ (x ∷ rest) ∷ []) ≡ []
unfolding sja_on_literals faults
taken_form name rest x h = simp h

pub form : (name rest : List ℕ) (x : ℕ) → (x == 45) ≡ false →
    ParsesAs (name ∷ codes "message" ∷ (x ∷ rest) ∷ []) (message (x ∷ rest))
form name rest x h = record { taken = taken_form name rest x h; asks = asked_form name rest x h }

-- `--version`, whatever follows
pub long_version : (name : List ℕ) (more : List (List ℕ)) →
    faults (name ∷ codes "--version" ∷ more) ≡ DisplayVersion ∷ []
unfolding sja_on_literals faults
long_version name more = refl

-- `-V`, whatever follows
pub short_version : (name : List ℕ) (more : List (List ℕ)) → faults (name ∷ codes "-V" ∷ more) ≡ DisplayVersion ∷ []
unfolding sja_on_literals faults
short_version name more = refl

-- the program's name alone
pub no_subcommand : (name : List ℕ) (r : Request) → ¬ ParsesAs (name ∷ []) r
unfolding sja_on_literals asked
no_subcommand name r parses = cc (parses.asks)

-- `encode` alone
pub no_message : (name : List ℕ) (r : Request) → ¬ ParsesAs (name ∷ codes "encode" ∷ []) r
unfolding sja_on_literals asked
no_message name r parses = cc (parses.asks)

-- `run`
pub run_alone : (name : List ℕ) → ParsesAs (name ∷ codes "run" ∷ []) (run false)
unfolding sja_on_literals asked faults
run_alone name = record { taken = refl; asks = refl }

-- `run --threads`
pub run_in_threads : (name : List ℕ) → ParsesAs (name ∷ codes "run" ∷ codes "--threads" ∷ []) (run true)
unfolding sja_on_literals asked faults
run_in_threads name = record { taken = refl; asks = refl }

-- `wave`
pub wave_alone : (name : List ℕ) → ParsesAs (name ∷ codes "wave" ∷ []) (wave false)
unfolding sja_on_literals asked faults
wave_alone name = record { taken = refl; asks = refl }

-- `wave --threads`
pub wave_in_threads : (name : List ℕ) → ParsesAs (name ∷ codes "wave" ∷ codes "--threads" ∷ []) (wave true)
unfolding sja_on_literals asked faults
wave_in_threads name = record { taken = refl; asks = refl }

-- `trace`
pub trace_alone : (name : List ℕ) → ParsesAs (name ∷ codes "trace" ∷ []) (trace false)
unfolding sja_on_literals asked faults
trace_alone name = record { taken = refl; asks = refl }

-- `trace --threads`
pub trace_in_threads : (name : List ℕ) → ParsesAs (name ∷ codes "trace" ∷ codes "--threads" ∷ []) (trace true)
unfolding sja_on_literals asked faults
trace_in_threads name = record { taken = refl; asks = refl }

-- `frames`
pub frames_alone : (name : List ℕ) → ParsesAs (name ∷ codes "frames" ∷ []) (frames false false)
unfolding sja_on_literals asked faults
frames_alone name = record { taken = refl; asks = refl }

-- `frames --threads`
pub frames_in_threads : (name : List ℕ) → ParsesAs (name ∷ codes "frames" ∷ codes "--threads" ∷ []) (frames false true)
unfolding sja_on_literals asked faults
frames_in_threads name = record { taken = refl; asks = refl }

-- `frames --bits`
pub frames_by_bits : (name : List ℕ) → ParsesAs (name ∷ codes "frames" ∷ codes "--bits" ∷ []) (frames true false)
unfolding sja_on_literals asked faults
frames_by_bits name = record { taken = refl; asks = refl }

-- `check`
pub check_alone : (name : List ℕ) → ParsesAs (name ∷ codes "check" ∷ []) (check false)
unfolding sja_on_literals asked faults
check_alone name = record { taken = refl; asks = refl }

-- `check --strict`
pub check_strict : (name : List ℕ) → ParsesAs (name ∷ codes "check" ∷ codes "--strict" ∷ []) (check true)
unfolding sja_on_literals asked faults
check_strict name = record { taken = refl; asks = refl }

-- `live`
pub live_alone : (name : List ℕ) → ParsesAs (name ∷ codes "live" ∷ []) live
unfolding sja_on_literals asked faults
live_alone name = record { taken = refl; asks = refl }

-- `encode` and such a text, both together
pub text : (name rest : List ℕ) (x : ℕ) → (x == 45) ≡ false →
    ParsesAs (name ∷ codes "encode" ∷ (x ∷ rest) ∷ []) (encode (x ∷ rest))
text name rest x h = record { taken = taken_text name rest x h; asks = asked_text name rest x h }
