-- The bits of a frame from its start to the end of its data, before stuffing (Bosch CAN 2.0 part B section 3.2;
-- ISO 11898-1). The levels of reserved bits and of SRR are left open, since a receiver takes either.
use Rattle.std.specs.Prelude.{◌≡◌, ◌/◌, ◌^◌, ℕ, Bool, true, false, List, [], ◌∷◌, ◌++◌}
use Rattle.std.specs.List.{flat_map}
use Rattle.can_frame.specs.Frame.{FrameValue}
use Rattle.can_levels.specs.declared.level.Level.{Level}
use Rattle.can_levels.specs.declared.level.Level.TheVariants.{Dominant, Recessive}
use Rattle.can_levels.specs.Digits.{level_of, bits}

-- SOF, arbitration field and reserved bits, by the format.
-- Standard: ID.28 to ID.18, RTR, IDE dominant, r0.
-- Extended: ID.28 to ID.18, SRR, IDE recessive, ID.17 to ID.0, RTR, r1, r0
abbrev pub head_bits : Bool → ℕ → Bool → Level → Level → Level → List Level
head_bits false id rtr srr r1 r0 = Dominant ∷ (bits 11 id ++ level_of rtr ∷ Dominant ∷ r0 ∷ [])
head_bits true id rtr srr r1 r0 =
    Dominant ∷ (bits 11 (id / 2 ^ 18) ++ (srr ∷ Recessive ∷ (bits 18 id ++ level_of rtr ∷ r1 ∷ r0 ∷ [])))

-- the body: that head, the DLC, and each data byte with its most significant bit first. A standard frame has no SRR and
-- no r1
abbrev pub body_bits : FrameValue → Level → Level → Level → List Level
body_bits f srr r1 r0 = head_bits f.ext f.id f.rtr srr r1 r0 ++ (bits 4 f.dlc ++ flat_map (bits 8) f.bytes)

-- b is the body of f, with some levels of SRR and of the reserved bits
abbrev pub IsBody : FrameValue → List Level → Type 0
IsBody f b = (srr : Level) × (r1 : Level) × (r0 : Level) × (b ≡ body_bits f srr r1 r0)

-- the body that a transmitter sends: SRR recessive, reserved bits dominant
abbrev pub sent_body : FrameValue → List Level
sent_body f = body_bits f Recessive Dominant Dominant
