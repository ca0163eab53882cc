-- What stands around the lanes of a drawing: its head with the style sheet, the ruler, the bus and the legend (this
-- project's own rule; the form of a style sheet is W3C's, Cascading Style Sheets 2.1).
use Rattle.std.specs.Prelude.{ℕ, List, ◌++◌, codes, decimal}
use Rattle.text_svg.specs.Places.{node_top, whole_width, whole_height}

-- ---- the style sheet: texts and lines, signs, and the colour of each class of boxes

abbrev pub line_style : List ℕ
line_style =
    codes "text{font:12px sans-serif;fill:#24292f}\n.name{font-weight:bold}\n"
    ++ codes ".number,.count{font-size:10px;fill:#6e7781}\n.count{text-anchor:end}\n"
    ++ codes "path{fill:none;stroke-width:1.5}\n.tick{stroke:#e1e4e8;stroke-width:1}\n.level{stroke:#24292f}\n"
    ++ codes ".scale,.rec,.tec{vector-effect:non-scaling-stroke}\n"
    ++ codes ".scale{stroke:#c9d1d9;stroke-width:1;stroke-dasharray:4 3}\n"
    ++ codes ".rec{stroke:#0969da}\n.tec{stroke:#bc4c00}\n.recs{fill:#0969da}\n.tecs{fill:#bc4c00}\n"
    ++ codes ".struck{stroke:#d1242f;stroke-width:2.5}\n.stored{fill:#1a7f37}\n.lost{fill:#fff;stroke:#d1242f}\n"

abbrev pub box_style : List ℕ
box_style =
    codes ".sof{fill:#8c959f}\n.id{fill:#9ecbff}\n.rtr{fill:#6cb6ff}\n.control{fill:#c8b6ff}\n.data{fill:#a6e3a1}\n"
    ++ codes ".crc{fill:#ffcf8f}\n.ack{fill:#7fdbca}\n.eof{fill:#d0d7de}\n.stuff{fill:#fff176}\n"
    ++ codes ".active{fill:#ff8a80}\n.passive{fill:#ffb3c7}\n.overload{fill:#d6a2e8}\n.delimiter{fill:#e6d5c3}\n"
    ++ codes ".gap{fill:#dfe4ea}\n.suspend{fill:#dbe4c9}\n.idle{fill:#f0f0f0}\n.waiting{fill:#e8f0fb}\n"
    ++ codes ".reset{fill:#afb8c1}\nrect{shape-rendering:crispEdges}\n"

abbrev pub style : List ℕ
style = codes "<style>\n" ++ line_style ++ box_style ++ codes "</style>\n"

-- with a ground that is white
abbrev pub ground : List ℕ
ground = style ++ codes "<rect width='100%' height='100%' fill='#fff'/>\n"

-- ---- the head: how large it all is, and the ground

abbrev pub size : ℕ → ℕ → List ℕ
size nodes many =
    codes "<svg xmlns='http://www.w3.org/2000/svg' width='" ++ decimal (whole_width many) ++ codes "' height='"
    ++ decimal (whole_height nodes) ++ codes "'>\n"

abbrev pub head : ℕ → ℕ → List ℕ
head nodes many = size nodes many ++ ground

-- ---- the ruler and the bus

abbrev pub ruler_lane : List ℕ → List ℕ
ruler_lane marks = codes "<g transform='translate(72 0)'>\n" ++ marks ++ codes "</g>\n"

abbrev pub bus_head : List ℕ
bus_head = codes "<g transform='translate(72 28)'>\n<text class='name' x='-64' y='17'>bus</text>\n"

abbrev pub bus_line : List ℕ → List ℕ
bus_line levels = codes "<path class='level' d='" ++ levels ++ codes "'/>\n</g>\n"

abbrev pub bus_lane : List ℕ → List ℕ
bus_lane levels = bus_head ++ bus_line levels

-- all of it, above the lanes of the nodes
abbrev pub top : ℕ → ℕ → List ℕ → List ℕ → List ℕ
top nodes many marks levels = head nodes many ++ ruler_lane marks ++ bus_lane levels

-- ---- the legend: a box and the name of each class, and the signs and lines

abbrev pub frame_legend : List ℕ
frame_legend =
    codes "<rect class='sof' width='12' height='12'/><text x='18' y='10'>SOF</text>\n"
    ++ codes "<rect class='id' y='18' width='12' height='12'/><text x='18' y='28'>identifier</text>\n"
    ++ codes "<rect class='rtr' y='36' width='12' height='12'/><text x='18' y='46'>RTR or SRR</text>\n"
    ++ codes "<rect class='control' y='54' width='12' height='12'/><text x='18' y='64'>IDE, r1, r0 or DLC</text>\n"
    ++ codes "<rect class='data' y='72' width='12' height='12'/><text x='18' y='82'>data field</text>\n"
    ++ codes "<rect class='crc' y='90' width='12' height='12'/><text x='18' y='100'>CRC field</text>\n"

abbrev pub end_legend : List ℕ
end_legend =
    codes "<g transform='translate(152 0)'>\n"
    ++ codes "<rect class='ack' width='12' height='12'/><text x='18' y='10'>ACK field</text>\n"
    ++ codes "<rect class='eof' y='18' width='12' height='12'/><text x='18' y='28'>EOF</text>\n"
    ++ codes "<rect class='stuff' y='36' width='12' height='12'/><text x='18' y='46'>stuff bit</text>\n"
    ++ codes "<rect class='gap' y='54' width='12' height='12'/><text x='18' y='64'>intermission</text>\n"
    ++ codes "<rect class='suspend' y='72' width='12' height='12'/><text x='18' y='82'>suspend transmission</text>\n"
    ++ codes "<rect class='idle' y='90' width='12' height='12'/><text x='18' y='100'>bus idle</text>\n</g>\n"

abbrev pub flag_legend : List ℕ
flag_legend =
    codes "<g transform='translate(312 0)'>\n"
    ++ codes "<rect class='active' width='12' height='12'/><text x='18' y='10'>active error flag</text>\n"
    ++ codes "<rect class='passive' y='18' width='12' height='12'/><text x='18' y='28'>passive error flag</text>\n"
    ++ codes "<rect class='overload' y='36' width='12' height='12'/><text x='18' y='46'>overload flag</text>\n"
    ++ codes "<rect class='delimiter' y='54' width='12' height='12'/><text x='18' y='64'>delimiter</text>\n"
    ++ codes "<rect class='waiting' y='72' width='12' height='12'/><text x='18' y='82'>waiting for the bus</text>\n"
    ++ codes "<rect class='reset' y='90' width='12' height='12'/><text x='18' y='100'>in reset</text>\n</g>\n"

abbrev pub sign_legend : List ℕ
sign_legend =
    codes "<g transform='translate(464 0)'>\n"
    ++ codes "<path class='level' d='M0 1h6v10h6'/><text x='18' y='10'>recessive, dominant</text>\n"
    ++ codes "<path class='struck' d='M2 20l8 8m0-8l-8 8'/><text x='18' y='28'>struck</text>\n"
    ++ codes "<path class='stored' d='M2 38h8l-4 8z'/><text x='18' y='46'>stored for its driver</text>\n"
    ++ codes "<path class='lost' d='M2 56h8l-4 8z'/><text x='18' y='64'>overrun, lost</text>\n"
    ++ codes "<path class='tec' d='M0 78h12'/><text x='18' y='82'>transmit error counter</text>\n"
    ++ codes "<path class='rec' d='M0 96h12'/><text x='18' y='100'>receive error counter</text>\n</g>\n"

abbrev pub legend : List ℕ
legend = frame_legend ++ end_legend ++ flag_legend ++ sign_legend ++ codes "</g>\n</svg>\n"

-- it stands below the last node
abbrev pub foot_front : ℕ → List ℕ
foot_front nodes = codes "<g transform='translate(72 " ++ decimal (node_top nodes) ++ codes ")'>\n"

abbrev pub foot : ℕ → List ℕ
foot nodes = foot_front nodes ++ legend
