-- The stream is lent for a lifetime that is made for the call; the array is passed on.
use Rattle.bajofeki_c.proofs.Walking.{ℕ, List, [], ◌∷◌, refl, proved, full_share, id⊢, Lft, ftrue, flft, flent, fsep, fex, named, vptr, fact, tables, ‵, raw, ◌⊛◌, some, later, prop, ◌$◌, ◌∵◌, !, qed, done, move, drop, use1, use2, use3, split, fsplit, join, fjoin, fpack, pick, await, regoal, suffices, group, feq_l, enter, of_opd, addr, stop, no_more, and_then, returns, alloc_all, pass_all, free_all, look_at, get, through, sets, lands_as, lft_new, yes, Is, shows, Ptr, RawPtr, block_ptr, in_a_block, rawptr_vals, rawptr_Tells, MutRef, MutBor, plain, nothing, heard, peeks, calls_at, lasts, triple_of, Stays, walk_of, stay_dropped, Goes-dropped, ends_at, framed, WpFn}
use Rattle.std.proofs.Common.{◌++◌}
use types.SemTy.{Body}
use types.Run.{fld, hop, from}
use types.ByLocal.{get_in, look_in_at}
use types.Part.{agg, sub, whole}
use denote.Lend.{lends_ref, ref_back}
use denote.Memory.{mem}
use denote.RattleType.{owns}
use denote.Signature.{types_at}
use denote.Slice.{mut_slice_vals, mut_slice_Tells, mut_slice_Lawful}
use denote.Triple.Walked.{gave_slice, Goes-gave_slice}
use base.Share
use base.Fml.{fdead}
use borrow.Within.Token.{Rest}
use contract.BorrowLft.{meet_⊑_right}
use Rattle.bajofeki_c.proofs.Lives.{over, within}
use Rattle.bajofeki_c.specs.Lent.{stream_at, stream_lies_at}
use Rattle.bajofeki_c.specs.contracts.stream.Stream as stream
use Rattle.bajofeki_c.specs.contracts.cut.Piece as piece
use Rattle.bajofeki_c.specs.contracts.document.Count as count
use Rattle.bajofeki_c.specs.declared.stream.Stream.{Stream}
use Rattle.bajofeki_c.specs.declared.cut.Piece.{Piece}
use Rattle.bajofeki_c.specs.declared.document.Count.{Count}
use Rattle.bajofeki_c.specs.Stream.{GivesOn}
use Rattle.bajofeki_c.proofs.document.Count.TheLaws as count_laws
use Rattle.bajofeki_c.specs.contracts.bajofeki_next as f
use Rattle.bajofeki_c.proofs.bajofeki_next.Statement.{statement}
use Rattle.bajofeki_c.proofs.bajofeki_next.Code as code
use Rattle.bajofeki_c.specs.contracts.stream.next_in_stream as g
use Rattle.bajofeki_c.proofs.stream.next_in_stream.Met.{met}

abbrev stayed : Stays f.ended.signature.params f.ended.kept
stayed = (stay_dropped _ yes, (gave_slice (0 ∷ []) tt (plain (λ _. piece.the_row)), tt))

pub bajofeki_next_spec : {M : Type 1} → statement M
bajofeki_next_spec 𝓤 𝓛 𝓜 𝓡 wired =
    let c = f.clauses 𝓛 𝓜.mem 𝓡.returns in let W = walk_of 𝓛 f.ended stayed c in let 𝓣 = tables 𝓤 𝓛.H 𝓜 𝓡 𝓡.env in
    proved 𝓛 f.ended stayed c 𝓜 𝓡
    (Goes-dropped 𝓛 1 (plain (λ _. RawPtr)) yes (λ κs x w. refl), (Goes-gave_slice 𝓛 1 0 tt (plain (λ _. piece.the_row)), tt))
    f.Key.name code.function (code.unfolded 𝓤 𝓛.H 𝓜 𝓡 wired)
    (λ κs. (rawptr_vals, (mut_slice_vals, tt))) (λ κs. (rawptr_Tells, (mut_slice_Tells (named 0) κs.0 piece.the_row, tt))) (λ κs qs bounds a h are.
    let m = a.1.0 in let κ = h.lifetime in let q = h.share in let row = stream.the_row (record { mir = named 1; lft = κ }) in
    let y : Ptr → W.Ghost = λ p. ((κs, qs, bounds, (p, a.1), (rawptr_vals p, (mut_slice_vals m, tt))), h) in
    let G = triple_of 𝓛 g.signature (g.spec 𝓛 𝓜.mem 𝓡.returns) in
    let toks = ‵ (flft κs.0 qs.0) ⊛ ‵ ftrue in
    qed 𝓛 ((toks ⊛ ‵ (owns (types_at f.signature.params κs) a (y a.0).0.4)) ∷ ‵ (stream_at a.0 h) ∷ []) ∵
    split ! $ move ! (1 ∷ []) $ fsplit ! $ drop ! $ move ! (2 ∷ []) $ fsplit ! $
    -- [the stream; the token of its lexer; the array; the tokens]
    in_a_block ! a.0 (λ p. stream_lies_at p κ h.stream) (id⊢ 𝓤 _) (λ b o e.
    regoal ! (λ p. prop (WpFn 𝓤 𝓛.H 𝓣.C 𝓣.Λ code.function (rawptr_vals p ++ mut_slice_vals m) (W.post (y p)))) e refl $
    let array_typed = ((mut_slice_Lawful 𝓛 (named 0) κs.0 piece.the_row).typed m _ are.1.0).0 in
    enter ! _ _ _ _ _ $ alloc_all ! (λ l. pass_all ! refl ((tt, tt), (array_typed, tt)) $
    sets ! (of_opd ! (get ! refl)) refl (tt, tt) $ sets ! (addr ! (through ! refl (stop !))) refl (tt, tt) $
    sets ! (addr ! (from ! (fld ! refl (hop ! (look_in_at ! 2 (sub ! 0 refl (whole !))) (stop !))))) refl (tt, tt) $
    sets ! (agg ! (and_then ! (get ! refl) (and_then ! (get_in ! (fld ! refl (stop !)) (sub ! 1 refl (whole !))) (no_more !)))) refl array_typed $
    lft_new ! tt (λ α. let ν : Lft = α ∷ κ in move ! (0 ∷ 2 ∷ []) $
    use2 𝓛 (‵ (flft ν (Share.right q)) ⊛ ‵ (flft κ (Share.left q)) ⊛ raw (Rest 𝓛 α (Share.right q))) (within 𝓛 α κ q) $ split ! $ move ! (1 ∷ []) $ split ! $ move ! (3 ∷ []) $
    use1 𝓛 (later (some (λ (γ : ℕ). ‵ ((MutRef (named 0) ν row).own_val (record { ref_ptr = (b, o); ghost_name = γ; now = h.stream }) (vptr b o ∷ []))
    ⊛ ‵ (flent ν (Body (mem row) b o γ)))))
    (lends_ref 𝓛 row (named 0) ν h.stream b o) $ await ! tt $ pick ! (λ γ. split ! $
    -- [the `&mut`; the right to the stream; the lexer's token; the way back; the call's token; the array; the tokens]
    let lent : MutBor Stream = record { ref_ptr = (b, o); ghost_name = γ; now = h.stream } in
    let z : G.Ghost = (((ν, (κ, κs)), (Share.right q, (Share.left q, qs)), (meet_⊑_right (α ∷ []) κ, tt), (lent, a.1), (vptr b o ∷ [], (mut_slice_vals m, tt))), tt) in
    move ! (0 ∷ 5 ∷ []) $ fjoin ! $ move ! (2 ∷ 5 ∷ []) $ join ! $ move ! (4 ∷ 0 ∷ []) $ join ! $ join ! $
    nothing ! $ move ! (1 ∷ 0 ∷ []) $ use2 𝓛 (raw (G.pre z)) (id⊢ 𝓤 _) $
    calls_at ! (framed 𝓤 𝓛.H 𝓜 𝓣) G (met 𝓤 𝓛 𝓜 𝓡 (code.calls-bajofeki_c::stream::next_in_stream 𝓡.env wired)) z
    (and_then ! (get ! refl) (and_then ! (get ! refl) (no_more !))) (λ v.
    use1 𝓛 (later (some (λ (r : Count). ((‵ (flft ν (Share.right q)) ⊛ ‵ (flft κ (Share.left q)) ⊛ toks) ⊛ ‵ (count.the_row.own_val r (v ∷ []))) ⊛
    some (λ (ws : Stream × (List Piece × Unit {0})). ‵ (lasts g.ended z.0.0 z.0.3 ws) ⊛ raw (fact 𝓤 (GivesOn h.stream m.now r ws.1.0 ws.0)))))) (id⊢ 𝓤 _) $
    await ! tt $ pick ! (λ r. split ! $ split ! $ split ! $ move ! (1 ∷ []) $ split ! $ move ! (2 ∷ 0 ∷ 6 ∷ []) $
    use3 𝓛 (later (‵ (fdead ν) ⊛ ‵ (flft κ q))) (over 𝓛 α κ q) $ await ! tt $ split ! $ move ! (1 ∷ 2 ∷ []) $
    -- [the token of the lexer; the tokens; the stream's lifetime is over; the result; what the callee says; the right to the stream]
    move ! (3 ∷ []) $ peeks ! count.the_row (Is count.the_row) (shows 𝓛 count.the_row) r (v ∷ []) (λ is.
    lands_as ! refl refl ((count_laws.the_row_laws.lawful 𝓛).typed r (v ∷ []) is).0 $
    move ! (4 ∷ []) $ pick ! (λ ws. split ! $ move ! (1 ∷ []) $ heard ! (GivesOn h.stream m.now r ws.1.0 ws.0) (λ given.
    fsplit ! $ fsplit ! $ move ! (1 ∷ []) $ drop ! $ move ! (1 ∷ []) $
    fsplit ! $ move ! (1 ∷ []) $ drop ! $ fsplit ! $ fsplit ! $ move ! (1 ∷ []) $ feq_l ! (λ same. fjoin ! $
    -- [the array; the stream's last value; the result; the token of the lexer; the tokens; the stream's lifetime is over; the right to the stream]
    move ! (5 ∷ 6 ∷ 1 ∷ []) $ use3 𝓛 (later (‵ (stream_lies_at (block_ptr b o) κ ws.0))) (ref_back 𝓛 row ν γ ws.0 b o) $ await ! tt $
    -- [the stream; the array; the result; the token of the lexer; the tokens]
    returns ! (look_at ! 0 refl) $ free_all ! refl $
    nothing ! $ fpack ! (GivesOn h.stream m.now r ws.1.0 ws.0) (λ _. ftrue) given $ move ! (1 ∷ 0 ∷ []) $ fjoin ! $
    fpack ! Stream (λ s. fsep (stream_lies_at (block_ptr b o) κ s) (fex (GivesOn h.stream m.now r ws.1.0 s) (λ _. ftrue))) ws.0 $
    move ! (0 ∷ 3 ∷ []) $ fjoin ! $
    suffices ! _ (ends_at 𝓛 f.ended stayed c (y (block_ptr b o)) v r (tt, (ws.1.0, tt)) (tt, (same, tt))) $
    move ! (1 ∷ 2 ∷ 0 ∷ []) $ nothing ! $ move ! (1 ∷ 0 ∷ []) $ join ! $ nothing ! $ join ! $ move ! (3 ∷ []) $ group ! 3 $ done !)))))))))))
