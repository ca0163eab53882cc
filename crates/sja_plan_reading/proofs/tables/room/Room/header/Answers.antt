use Rattle.std.proofs.Common.{◌≡◌, length, sym, ◌∙◌, string_bytes}
use Rattle.std.proofs.lemmas.List.{length-map}
use Rattle.toml_parser.specs.Reading.{path_view}
use Rattle.sja_plan_reading.specs.Inside.Names.{texts_of}
use Rattle.sja_plan_reading.proofs.RoomItems.{items_added, header_is, section_is}
use Rattle.sja_plan_reading.proofs.tables.room.Room.header.Goals as goal

pub returns-clause-items : goal.returns-clause-items
returns-clause-items c =
    let ts = texts_of c.args.self.now.names in
    let path = path_view c.args.key.now.path.items in
    let last = string_bytes c.args.key.now.last in
    let at = c.in_ok-path.ensures.places in
    let count : c.in_ok-path.path.count ≡ length path = at.1 ∙ sym (length-map c.args.key.now.path.items string_bytes)
    in
    rw (c.in_ok-path.ensures.texts, c.in_ok-push.ensures.items)
    (items_added ts path last c.args.self.now.definitions.items _ _ c.requires.definitions
    (header_is ts path last c.in_ok-path.path c.in_ok-path.last at.0 count at.2 c.args.what))

pub returns-clause-section : goal.returns-clause-section
returns-clause-section c =
    let ts = texts_of c.args.self.now.names in
    let path = path_view c.args.key.now.path.items in
    let last = string_bytes c.args.key.now.last in
    let at = c.in_ok-path.ensures.places in
    let count : c.in_ok-path.path.count ≡ length path = at.1 ∙ sym (length-map c.args.key.now.path.items string_bytes)
    in
    rw c.in_ok-path.ensures.texts (section_is ts path last c.in_ok-path.path c.in_ok-path.last at.0 count at.2)
