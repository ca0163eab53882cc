use Rattle.std.proofs.Common.{◌≡◌, length, sym, ◌∙◌, string_bytes}
use Rattle.std.proofs.lemmas.List.{length-map}
use Rattle.toml_parser.specs.Reading.{path_view}
use Rattle.sja_plan_reading.specs.Inside.Names.{texts_of}
use Rattle.sja_plan_reading.proofs.RoomItems.{items_added, pair_is, section_stays}
use Rattle.sja_plan_reading.proofs.tables.room.Room.pair.Goals as goal

pub returns-clause-items : goal.returns-clause-items
returns-clause-items c =
    let ts = texts_of c.args.self.now.names in
    let path = path_view c.args.key.now.path.items in
    let last = string_bytes c.args.key.now.last in
    let at = c.in_ok-dots.ensures.places in
    let count : c.in_ok-dots.dots.count ≡ length path = at.1 ∙ sym (length-map c.args.key.now.path.items string_bytes)
    in
    rw (c.in_ok-dots.ensures.texts, c.in_ok-push.ensures.items)
    (items_added ts path last c.args.self.now.definitions.items _ _ c.requires.definitions
    (pair_is ts path last c.in_ok-dots.dots c.in_ok-dots.last at.0 count at.2 c.args.self.now.section
    c.requires.section))

pub returns-clause-section : goal.returns-clause-section
returns-clause-section c =
    let ts = texts_of c.args.self.now.names in
    let path = path_view c.args.key.now.path.items in
    let last = string_bytes c.args.key.now.last in
    rw c.in_ok-dots.ensures.texts (section_stays ts path last c.args.self.now.section c.requires.section)

pub returns-clause-is : goal.returns-clause-is
returns-clause-is c =
    let ts = texts_of c.args.self.now.names in
    let path = path_view c.args.key.now.path.items in
    let last = string_bytes c.args.key.now.last in
    let at = c.in_ok-dots.ensures.places in
    let count : c.in_ok-dots.dots.count ≡ length path = at.1 ∙ sym (length-map c.args.key.now.path.items string_bytes)
    in
    rw c.in_ok-dots.ensures.texts (pair_is ts path last c.in_ok-dots.dots c.in_ok-dots.last at.0 count at.2
    c.args.self.now.section c.requires.section)
