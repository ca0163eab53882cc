-- How many bytes a plan's document has at most (this project's own rule).
use Rattle.std.specs.Prelude.{◌==◌, ℕ, Bool, if◌then◌else◌, List, codes, take}
use Rattle.std.specs.List.{starts_with}
use Rattle.toml_parser.specs.Lexical.{skip_blank}

-- the line of a document that says its version before all other keys
abbrev pub by_bytes_line : List ℕ
by_bytes_line = codes "version = 3\n"

-- the document begins with that line, or with blank lines and comments, as TOML has them, and then that line. No more
-- than its first 65,536 bytes are looked at
unfoldable pub begins_by_bytes : List ℕ → Bool
begins_by_bytes bytes = starts_with ◌==◌ (skip_blank (take 65536 bytes)) by_bytes_line

-- the bytes of a document. One of version 3 may be longer, where it says so before all other keys
abbrev pub most_bytes : List ℕ → ℕ
most_bytes bytes = if begins_by_bytes bytes then 16777216 else 65536
