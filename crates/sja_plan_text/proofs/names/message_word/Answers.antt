use Rattle.std.proofs.lemmas.Str.{IsUtf8-from_ascii}
use Rattle.sja_plan_text.proofs.names.message_word.Goals as goal

pub from_utf8_unchecked-requires : goal.from_utf8_unchecked-requires
from_utf8_unchecked-requires c =
    rw c.as_slice.ensures.value
    (IsUtf8-from_ascii c.text_of-characters.result.items c.text_of-characters.ensures.ascii)
