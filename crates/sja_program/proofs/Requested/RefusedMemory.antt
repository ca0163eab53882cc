-- Refused memory is a refusal of each request.
use Rattle.std.proofs.Common.{List, ℕ, Option, refl, inl, inr}
use Rattle.sja_command_line.specs.Requests.{Request, encode, decode, filter, arbitrate, message, run, wave, trace}
use Rattle.sja_command_line.specs.Requests.{frames}
use Rattle.sja_command_line.specs.Requests.{registers}
use Rattle.sja_command_line.specs.Requests.{picture, candump, check, sweep, struck_plan, spelled_plan, expected, files}
use Rattle.sja_command_line.specs.Requests.{live}
use Rattle.sja_program.specs.Answer.{IsRefused}
use Rattle.sja_program.specs.Input.{ReadsFew}
use Rattle.text_codec.specs.declared.command_refusal.CommandRefusal.TheVariants.{OutOfMemory}

-- whatever is asked for, where few bytes were read
pub memory_refused : (r : Request) (before after : Option (List ℕ)) → ReadsFew before after →
    IsRefused r before after OutOfMemory
memory_refused (encode given) before after few = inr (inr refl)
memory_refused (decode digits) before after few = tt
memory_refused (filter single acr amr digits) before after few = inl refl
memory_refused (arbitrate messages) before after few = inl refl
memory_refused (message given) before after few = inr (inr refl)
memory_refused (run threads) before after few = few
memory_refused (wave threads) before after few = few
memory_refused (trace threads) before after few = few
memory_refused (frames bits threads) before after few = few
memory_refused (picture first last svg threads meant) before after few = few
memory_refused (candump errors threads) before after few = few
memory_refused (check strict) before after few = few
memory_refused (sweep w) before after few = few
memory_refused (struck_plan node bit) before after few = few
memory_refused (registers bit) before after few = few
memory_refused spelled_plan before after few = inl few
memory_refused (expected threads plan report) before after few = (refl, few)
memory_refused (files asked jobs names) before after few = (refl, few)
memory_refused live before after few = (refl, few)
