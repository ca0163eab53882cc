-- The elements that a drawing is made of, in scalable vector graphics (W3C, Scalable Vector Graphics 1.1: rect in
-- section 9.2, path in 8.2, title in 5.4; which of them stand for what is this project's own rule).
use Rattle.std.specs.Prelude.{◌==◌, ℕ, if◌then◌else◌, List, ◌++◌, codes, decimal}
use Rattle.can_node_rules.specs.declared.counters.Counters.{Counters}
use Rattle.sja_replay.specs.declared.bit_event.BitEvent.{BitEvent}
use Rattle.text_svg.specs.declared.kind.Kind.{Kind}
use Rattle.text_svg.specs.Kinds.{class_of, name_of}

-- a line that has this height in the bit that begins at x: it begins in the first bit, and goes on in each other one
abbrev pub step_to : ℕ → ℕ → List ℕ
step_to x y =
    if x == 0 then codes "M0 " ++ decimal y ++ codes "h8"
    else codes "V" ++ decimal y ++ codes "h8"

-- the box of a bit, with what a browser shows where the pointer stands on it: which bit it is, what it was, and the
-- error counters after it
abbrev pub box_front : ℕ → Kind → ℕ → List ℕ
box_front x kind bit =
    codes "<rect class='" ++ class_of kind ++ codes "' x='" ++ decimal x
    ++ codes "' width='8' height='24'><title>bit " ++ decimal bit ++ codes ": " ++ name_of kind

abbrev pub box_end : Counters → List ℕ
box_end c = codes "; TEC " ++ decimal c.tec ++ codes ", REC " ++ decimal c.rec ++ codes "</title></rect>\n"

abbrev pub box_of : ℕ → Kind → BitEvent → List ℕ
box_of x kind h = box_front x kind h.bit ++ box_end h.after.counters

-- below the box, with such texts: a cross for a strike, and a triangle for a message that was stored or lost
abbrev pub struck_sign : ℕ → ℕ → List ℕ
struck_sign x bit =
    codes "<path class='struck' d='M" ++ decimal x ++ codes " 29l8 8m0-8l-8 8'><title>bit " ++ decimal bit
    ++ codes ": struck</title></path>\n"

abbrev pub stored_sign : ℕ → ℕ → List ℕ → List ℕ
stored_sign x bit frame =
    codes "<path class='stored' d='M" ++ decimal x ++ codes " 42h8l-4 8z'><title>bit " ++ decimal bit
    ++ codes ": stored " ++ frame ++ codes "</title></path>\n"

abbrev pub lost_sign : ℕ → ℕ → List ℕ → List ℕ
lost_sign x bit frame =
    codes "<path class='lost' d='M" ++ decimal x ++ codes " 42h8l-4 8z'><title>bit " ++ decimal bit
    ++ codes ": overrun, lost " ++ frame ++ codes "</title></path>\n"
