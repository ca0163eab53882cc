use Rattle.std.proofs.Common.{true, [], ◌∷◌, string_bytes}
use Rattle.can_notation.specs.Text.{hash, identifier_text, data_text}
use Rattle.text_candump.specs.ErrorFrames.{error_identifier, error_bytes}
use Rattle.text_report.proofs.WrittenLines.Written.{two_texts}
use Rattle.text_candump.proofs.frame_lines.put_error.Goals as goal

pub returns : goal.returns
unfolding lib.Utf8.encode
returns c =
    two_texts (string_bytes c.args.text.now) (string_bytes c.put_identifier.new.text)
    (string_bytes c.put_bytes.new.text) (identifier_text true (error_identifier c.args.error.now))
    (hash ∷ data_text (error_bytes c.args.error.now)) c.in_ok-put_identifier.ensures
    (two_texts (string_bytes c.put_identifier.new.text) (string_bytes c.push.new.self)
    (string_bytes c.put_bytes.new.text) (hash ∷ []) (data_text (error_bytes c.args.error.now))
    c.in_ok-push.ensures.bytes (rw c.bytes.ensures at c.in_ok-put_bytes.ensures))
