-- What the walks cite.
pub use Rattle.std.proofs.Common.{◌≡◌, ℕ, List, [], ◌∷◌, refl, ap, w64, MutBor}
pub use Rattle.std.proofs.raw_atomic.Walks.{proved}
pub use base.Fraction.{full_share}
pub use base.Logic.{id⊢}
pub use base.Fml.{Lft, Incl-refl, ftrue, fat, flft, flent}
pub use mir.Syntax.{named}
pub use mir.Val.{Val, vunit, vint, vptr}
pub use contract.Monad.{fact}
pub use contract.Running.{tables}
pub use types.Kit.{‵, raw, ◌⊛◌, some, later, prop, ◌$◌, ◌∵◌, !, qed, done, move, keep, drop, use1, use2, use3, split, join, fsplit, fjoin, feq_i, feq_l, pick, await, regoal, suffices, frame, group}
pub use types.Run.{enter, of_opd, unit_lit, addr, load, look, store, stop, no_more, and_then, assigns, returns}
pub use types.ByLocal.{alloc_all, pass_all, free_all, look_at, get, through, sets, lands_as}
pub use types.Tokens.{lft_new, lft_end, lent_back}
pub use denote.Builtin.{u8, usize, bool, unit}
pub use denote.Exit.{yes}
pub use denote.Laws.{Is, shows}
pub use denote.Lend.{lends_shr}
pub use denote.Memory.{part_at}
pub use denote.Plain.{uint_vals, uint_Tells, uint_Lawful}
pub use denote.RawPtr.{Ptr, RawPtr, block_ptr, lies_at, in_a_block, rawptr_vals, rawptr_Tells}
pub use denote.Ref.{ShrRef, MutRef}
pub use denote.Signature.{plain}
pub use denote.Steps.{nothing, heard, peeks, only}
pub use denote.Triple.Call.{calls_at}
pub use denote.Triple.Clauses.{lasts}
pub use denote.Triple.Entry.{on_entry}
pub use denote.Triple.Spec.{triple_of}
pub use denote.Triple.Walked.{Stays, walk_of, says, stay_dropped, Goes-dropped, ends_at}
pub use denote.Triple.Table.{framed}
pub use prog.Wp.{WpFn}
pub use contract.BorrowLft.{⊑_static}
pub use base.Logic.{ent}
pub use base.Fml.{froom, fex, fsep}
pub use borrow.Table.OneValue.{part_out, part_in}
pub use denote.Memory.{lone}
pub use denote.RawPtr.{room_at}
pub use denote.Triple.Clauses.{ensured}
pub use types.Kit.{fpack}
pub use types.Run.{init}
