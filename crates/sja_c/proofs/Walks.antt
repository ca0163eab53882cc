-- The names that the walks of this crate cite.
pub use Rattle.std.proofs.Common.{◌≡◌, ℕ, zero, ◌^◌, ◌<◌, List, [], ◌∷◌, ◌++◌, length, refl, sym, ap, subst}
pub use Rattle.std.proofs.Common.{lit<, w32, MutBor}
pub use Rattle.std.proofs.raw_atomic.Walks.{proved}
pub use seplogic.Ra.Ura.{Ura}
pub use base.Fraction.{full_share}
pub use base.Logic.{SProp, ent, sep, via, snd∗, id⊢}
pub use base.Fml.{Lft, Share, ftrue, fat, froom, flft, flent}
pub use mir.Syntax.{Ty, named}
pub use mir.Raw.{raw as bare}
pub use mir.Val.{Val, vptr}
pub use prog.Model.{Model}
pub use prog.Wired.{Wired}
pub use prog.Wp.{WpFn}
pub use types.Logic.{Logic, sem}
pub use types.SemTy.{Body}
pub use types.Kit.{Item, ⋆, ‵, raw, ◌⊛◌, some, later, at_ret, ◌$◌, ◌∵◌, !, qed, by, done, move, keep, drop, show, use0}
pub use types.Kit.{use1, use2, use3, split, split3, join, fsplit, fjoin, feq_l, pick, await, group}
pub use types.Tokens.{lft_new, lft_end}
pub use types.Part.{whole, sub, agg}
pub use types.Run.{enter, of_opd, lit, bin, addr, from, fld, hop, stop, no_more, and_then, first, branches, skips, exec}
pub use types.Run.{returns, returns_within}
pub use types.ByLocal.{alloc_all, pass_all, free_all, look_at, look_in_at, get, get_in, through, sets, lands_as, env}
pub use contract.Monad.{fact, fact_use}
pub use contract.Running.{Running, MachineTables, tables}
pub use denote.Builtin.{u8, u32}
pub use denote.Exit.{yes, left}
pub use denote.Lend.{lends_ref, ref_back}
pub use denote.Laws.{Is, shows}
pub use denote.Memory.{mem, lone}
pub use denote.Plain.{uint_Makes, uint_vals, uint_Tells}
pub use denote.RawPtr.{Ptr, RawPtr, block_ptr, null_ptr, Testable, tests_null, lies_at, rawptr_vals, rawptr_Tells}
pub use denote.Ref.{MutRef}
pub use denote.Signature.{plain}
pub use denote.Slice.{MutSlice, mut_slice_vals, mut_slice_Tells}
pub use denote.Steps.{nothing, heard, peeks}
pub use denote.Triple.Call.{calls_at}
pub use denote.Triple.Clauses.{lasts}
pub use denote.Triple.Entry.{on_entry}
pub use denote.Triple.Spec.{triple_of}
pub use denote.Triple.Statement.{Contract}
pub use denote.Triple.Table.{framed}
pub use denote.Triple.Walked.{Stays, walk_of, stay_dropped, Goes-dropped, gave_slice, Goes-gave_slice}
pub use Rattle.std.proofs.GlobalToken.{dealloc_token_start}
pub use Rattle.std.specs.Box.Ownership.{box_owns}
pub use Rattle.sja_c.specs.Handles.{token}
