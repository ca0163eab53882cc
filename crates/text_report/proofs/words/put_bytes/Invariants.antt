use Rattle.std.proofs.Common.{◌≡◌, ◌*◌, ◌++◌, ◌≤◌, length, drop}
use Rattle.std.specs.Str.{IsAscii}
use Rattle.text_report.specs.ReportWords.{message_words}
use Rattle.text_report.specs.Spacing.{all_spaced}
use Rattle.text_report.proofs.words.put_bytes.Given as goal

-- what was gathered, and the words of the rest of the bytes, are the whole
abbrev pub invariant-loop-byte : goal.invariant-loop-byte
invariant-loop-byte l = record {
  words : l.words.items ++ all_spaced (message_words (drop l.byte-index l.bytes))
      ≡ all_spaced (message_words l.message);
  ascii : IsAscii l.words.items;
  room : length l.words.items ≡ 3 * l.byte-index;
  few : length l.bytes ≤ 13;
}
