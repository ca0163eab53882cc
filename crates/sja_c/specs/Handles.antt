-- What a handle is, as C has it (this project's own rule).
use base.Fml.{Fml}
use denote.RawPtr.{Ptr, block_ptr, null_ptr}
use mir.Syntax.{Ty}
use Rattle.std.specs.Box.Ownership.{box_owns}
use Rattle.std.specs.Ptr.{if_non_null}
use Rattle.std.specs.contracts.impls.GlobalAllocator.TheImpl.{ghosts}
use Rattle.sja_calls.specs.contracts.handle.Handle.{the_row}
use Rattle.sja_calls.specs.declared.handle.Handle.{Handle}
use Rattle.sja_calls.specs.declared.state.State.TheVariants.{Lost}
use Rattle.std.specs.declared.alloc.Global.{Global}

-- the right to free a block that the session's allocator gave
abbrev pub token : Handle → Ty → Ptr → Fml
token held = ghosts.dealloc_token held.alloc

-- a session on the heap of the C library, and the right to free it; nothing at null
abbrev pub is_handle : Ptr → Handle → Fml
is_handle at held = if_non_null at (box_owns (token held) the_row at held)

-- a place for a session in which there is none
abbrev pub empty : Global → Handle
empty alloc = record { alloc = alloc; state = Lost }

-- one thing where a handle is null, and another where it isn't
abbrev pub AtHandle : Ptr → Type 0 → Type 0 → Type 0
AtHandle (block_ptr block offset) none some = some
AtHandle null_ptr none some = none
