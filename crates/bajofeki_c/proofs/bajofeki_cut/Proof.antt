-- The lexer is lent on, and the cut is lent for a lifetime that is made for the call; the text and the array are passed on.
use Rattle.bajofeki_c.proofs.Walking.{ℕ, List, [], ◌∷◌, refl, proved, full_share, id⊢, Lft, ftrue, flft, flent, fsep, fex, named, vptr, fact, tables, ‵, raw, ◌⊛◌, some, later, prop, ◌$◌, ◌∵◌, !, qed, done, move, drop, use1, use2, use3, split, fsplit, join, fjoin, fpack, pick, await, regoal, suffices, group, feq_l, enter, of_opd, addr, stop, no_more, and_then, returns, alloc_all, pass_all, free_all, look_at, get, through, sets, lands_as, lft_new, lft_end, u8, yes, Is, shows, Ptr, RawPtr, block_ptr, in_a_block, rawptr_vals, rawptr_Tells, ShrRef, MutRef, MutBor, plain, nothing, heard, peeks, calls_at, lasts, triple_of, Stays, walk_of, stay_dropped, Goes-dropped, ends_at, framed, WpFn}
use Rattle.std.proofs.Common.{◌++◌}
use types.SemTy.{Body}
use types.Run.{fld, hop, from}
use types.ByLocal.{get_in, look_in_at}
use types.Part.{agg, sub, whole}
use denote.Lend.{lends_ref, ref_back}
use denote.Memory.{mem}
use denote.RattleType.{owns}
use denote.Signature.{types_at}
use denote.Builtin.{SliceRefOf}
use denote.Slice.{shr_slice_vals, shr_slice_Tells, shr_slice_Lawful, mut_slice_vals, mut_slice_Tells, mut_slice_Lawful}
use denote.Struct.Lending.{lent_at}
use denote.Triple.Walked.{gave_slice, Goes-gave_slice}
use Rattle.bajofeki_c.specs.Room.{seen_at, cutting_at}
use Rattle.bajofeki_c.specs.contracts.held.Held.{the_row}
use Rattle.bajofeki_c.specs.contracts.cutting.Cutting as cutting
use Rattle.bajofeki_c.specs.contracts.cut.Piece as piece
use Rattle.bajofeki_c.specs.contracts.cut.Cut as cut
use Rattle.bajofeki_c.specs.declared.cutting.Cutting.{Cutting}
use Rattle.bajofeki_c.specs.declared.cut.Piece.{Piece}
use Rattle.bajofeki_c.specs.declared.cut.Cut.{Cut}
use Rattle.bajofeki_c.specs.Cut.{GoesOn, IsCutOn}
use Rattle.bajofeki_c.proofs.Seen.{seen, none_at_null, lent_out}
use Rattle.bajofeki_c.proofs.cut.Cut.TheLaws as cut_laws
use Rattle.bajofeki_c.specs.contracts.bajofeki_cut as f
use Rattle.bajofeki_c.proofs.bajofeki_cut.Statement.{statement}
use Rattle.bajofeki_c.proofs.bajofeki_cut.Code as code
use Rattle.bajofeki_c.specs.contracts.cut.cut_on as g
use Rattle.bajofeki_c.proofs.cut.cut_on.Met.{met}

abbrev stayed : Stays f.ended.signature.params f.ended.kept
stayed = (stay_dropped _ yes, (stay_dropped _ yes, (stay_dropped _ yes, (gave_slice (1 ∷ []) tt (plain (λ _. piece.the_row)), tt))))

pub bajofeki_cut_spec : {M : Type 1} → statement M
bajofeki_cut_spec 𝓤 𝓛 𝓜 𝓡 wired =
    let c = f.clauses 𝓛 𝓜.mem 𝓡.returns in let W = walk_of 𝓛 f.ended stayed c in let 𝓣 = tables 𝓤 𝓛.H 𝓜 𝓡 𝓡.env in
    let goes = Goes-dropped 𝓛 2 (plain (λ _. RawPtr)) yes (λ κs x w. refl) in
    proved 𝓛 f.ended stayed c 𝓜 𝓡
    (goes, (goes, (Goes-dropped 𝓛 2 (SliceRefOf (0 ∷ []) tt (plain (λ _. u8)) (λ κs. tt)) yes (λ κs x w. refl), (Goes-gave_slice 𝓛 2 1 tt (plain (λ _. piece.the_row)), tt))))
    f.Key.name code.function (code.unfolded 𝓤 𝓛.H 𝓜 𝓡 wired)
    (λ κs. (rawptr_vals, (rawptr_vals, (shr_slice_vals, (mut_slice_vals, tt)))))
    (λ κs. (rawptr_Tells, (rawptr_Tells, (shr_slice_Tells (named 0) κs.0 u8, (mut_slice_Tells (named 1) κs.1.0 piece.the_row, tt))))) (λ κs qs bounds a h are.
    let s = a.1.1.0 in let m = a.1.1.1.0 in let κ = h.view.lifetime in let q = h.view.share in
    let y : Ptr → Ptr → W.Ghost = λ p p'. ((κs, qs, bounds, (p, (p', a.1.1)), (rawptr_vals p, (rawptr_vals p', (shr_slice_vals s, (mut_slice_vals m, tt))))), h) in
    let G = triple_of 𝓛 g.signature (g.spec 𝓛 𝓜.mem 𝓡.returns) in
    let toks = ‵ (flft κs.0 qs.0) ⊛ ‵ (flft κs.1.0 qs.1.0) ⊛ ‵ ftrue in
    let going = raw (fact 𝓤 (GoesOn h.view.held s.now h.cutting)) in
    qed 𝓛 ((toks ⊛ ‵ (owns (types_at f.signature.params κs) a (y a.0 a.1.0).0.4)) ∷ ((‵ (seen_at a.0 h.view) ⊛ ‵ (cutting_at a.1.0 h.cutting)) ⊛ going) ∷ []) ∵
    split ! $ move ! (1 ∷ []) $ fsplit ! $ drop ! $ fsplit ! $ drop ! $ move ! (2 ∷ []) $ split ! $ split ! $
    -- [the lexer; the cut; that it goes on; the text with the array; the tokens]
    in_a_block ! a.0 (λ p. seen_at p h.view) (none_at_null 𝓛 h.view) (λ b o e.
    regoal ! (λ p. prop (WpFn 𝓤 𝓛.H 𝓣.C 𝓣.Λ code.function (rawptr_vals p ++ (rawptr_vals a.1.0 ++ (shr_slice_vals s ++ mut_slice_vals m))) (W.post (y p a.1.0)))) e refl $
    move ! (1 ∷ []) $
    in_a_block ! a.1.0 (λ p. cutting_at p h.cutting) (id⊢ 𝓤 _) (λ b' o' e'.
    regoal ! (λ p. prop (WpFn 𝓤 𝓛.H 𝓣.C 𝓣.Λ code.function (rawptr_vals (block_ptr b o) ++ (rawptr_vals p ++ (shr_slice_vals s ++ mut_slice_vals m))) (W.post (y (block_ptr b o) p)))) e' refl $
    move ! (1 ∷ []) $
    use1 𝓛 ((‵ ((ShrRef (named 0) κ the_row).own_val (seen h.view b o) (vptr b o ∷ [])) ⊛ ‵ (flft κ q)) ⊛ ‵ (lent_at the_row (block_ptr b o) h.view.held κ))
    (lent_out 𝓛 h.view b o) $ split ! $ split ! $
    -- [the `&`; its token; the `&` again; the cut; that it goes on; the text with the array; the tokens]
    let array_typed = ((mut_slice_Lawful 𝓛 (named 1) κs.1.0 piece.the_row).typed m _ are.1.1.1.0).0 in
    enter ! _ _ _ _ _ $ alloc_all ! (λ l. pass_all ! refl ((tt, tt), ((tt, tt), (((shr_slice_Lawful 𝓛 (named 0) κs.0 u8).typed s _ are.1.1.0).0, (array_typed, tt)))) $
    sets ! (of_opd ! (get ! refl)) refl (tt, tt) $ sets ! (addr ! (through ! refl (stop !))) refl (tt, tt) $
    sets ! (of_opd ! (get ! refl)) refl (tt, tt) $ sets ! (addr ! (through ! refl (stop !))) refl (tt, tt) $
    sets ! (addr ! (from ! (fld ! refl (hop ! (look_in_at ! 4 (sub ! 0 refl (whole !))) (stop !))))) refl (tt, tt) $
    sets ! (agg ! (and_then ! (get ! refl) (and_then ! (get_in ! (fld ! refl (stop !)) (sub ! 1 refl (whole !))) (no_more !)))) refl array_typed $
    lft_new ! tt (λ α. let ν : Lft = α ∷ [] in move ! (4 ∷ []) $
    use1 𝓛 (later (some (λ (γ : ℕ). ‵ ((MutRef (named 1) ν cutting.the_row).own_val (record { ref_ptr = (b', o'); ghost_name = γ; now = h.cutting }) (vptr b' o' ∷ []))
    ⊛ ‵ (flent ν (Body (mem cutting.the_row) b' o' γ)))))
    (lends_ref 𝓛 cutting.the_row (named 1) ν h.cutting b' o') $ await ! tt $ pick ! (λ γ. split ! $
    -- [the `&mut`; the right to the cut; its token; the `&`; its token; the `&` again; that it goes on; the text with the array; the tokens]
    let lent : MutBor Cutting = record { ref_ptr = (b', o'); ghost_name = γ; now = h.cutting } in
    let z : G.Ghost = (((κ, (ν, κs)), (q, (full_share, qs)), tt, (seen h.view b o, (lent, a.1.1)), (vptr b o ∷ [], (vptr b' o' ∷ [], (shr_slice_vals s, (mut_slice_vals m, tt))))), tt) in
    move ! (0 ∷ 7 ∷ []) $ fjoin ! $ move ! (3 ∷ 0 ∷ []) $ fjoin ! $
    -- [what is passed; the right to the cut; its token; the token of the `&`; the `&` again; that it goes on; the tokens]
    move ! (2 ∷ 6 ∷ []) $ join ! $ move ! (3 ∷ 0 ∷ []) $ join ! $ join ! $
    move ! (0 ∷ 3 ∷ []) $ use2 𝓛 (raw (G.pre z)) (id⊢ 𝓤 _) $
    calls_at ! (framed 𝓤 𝓛.H 𝓜 𝓣) G (met 𝓤 𝓛 𝓜 𝓡 (code.calls-bajofeki_c::cut::cut_on 𝓡.env wired)) z
    (and_then ! (get ! refl) (and_then ! (get ! refl) (and_then ! (get ! refl) (and_then ! (get ! refl) (no_more !))))) (λ v.
    use1 𝓛 (later (some (λ (r : Cut). ((‵ (flft κ q) ⊛ ‵ (flft ν full_share) ⊛ toks) ⊛ ‵ (cut.the_row.own_val r (v ∷ []))) ⊛
    some (λ (ws : Unit {0} × (Cutting × (Unit {0} × (List Piece × Unit {0})))). ‵ (lasts g.ended z.0.0 z.0.3 ws)
    ⊛ (raw (fact 𝓤 (IsCutOn h.view.held s.now h.cutting m.now r ws.1.1.1.0 ws.1.0)) ⊛ raw (fact 𝓤 (GoesOn h.view.held s.now ws.1.0))))))) (id⊢ 𝓤 _) $
    await ! tt $ pick ! (λ r. split ! $ split ! $ split ! $ move ! (1 ∷ []) $ split ! $ lft_end ! tt $
    -- [the cut's lifetime is over; the tokens; that of the `&`; the result; what the callee says; the right to the cut; the `&`]
    move ! (3 ∷ []) $ peeks ! cut.the_row (Is cut.the_row) (shows 𝓛 cut.the_row) r (v ∷ []) (λ is.
    lands_as ! refl refl ((cut_laws.the_row_laws.lawful 𝓛).typed r (v ∷ []) is).0 $
    move ! (4 ∷ []) $ pick ! (λ ws. split ! $ move ! (1 ∷ []) $ split ! $
    heard ! (IsCutOn h.view.held s.now h.cutting m.now r ws.1.1.1.0 ws.1.0) (λ filled. heard ! (GoesOn h.view.held s.now ws.1.0) (λ goes_on.
    fsplit ! $ drop ! $ fsplit ! $ fsplit ! $ move ! (1 ∷ []) $ drop ! $ move ! (1 ∷ []) $
    fsplit ! $ drop ! $ fsplit ! $ move ! (1 ∷ []) $ drop ! $ fsplit ! $ fsplit ! $ move ! (1 ∷ []) $ feq_l ! (λ same. fjoin ! $
    -- [the array; the cut's last value; the result; its lifetime is over; the tokens; that of the `&`; the right to the cut; the `&`]
    move ! (3 ∷ 6 ∷ 1 ∷ []) $ use3 𝓛 (later (‵ (cutting_at (block_ptr b' o') ws.1.0))) (ref_back 𝓛 cutting.the_row ν γ ws.1.0 b' o') $ await ! tt $
    move ! (5 ∷ 4 ∷ []) $ fjoin ! $
    -- [the lexer; the cut; the array; the result; the tokens]
    returns ! (look_at ! 0 refl) $ free_all ! refl $ move ! (1 ∷ []) $ nothing ! $
    fpack ! (IsCutOn h.view.held s.now h.cutting m.now r ws.1.1.1.0 ws.1.0 × GoesOn h.view.held s.now ws.1.0) (λ _. ftrue) (filled, goes_on) $ move ! (1 ∷ 0 ∷ []) $ fjoin ! $
    fpack ! Cutting (λ d. fsep (cutting_at (block_ptr b' o') d) (fex (IsCutOn h.view.held s.now h.cutting m.now r ws.1.1.1.0 d × GoesOn h.view.held s.now d) (λ _. ftrue))) ws.1.0 $
    move ! (1 ∷ 0 ∷ []) $ join ! $
    suffices ! _ (ends_at 𝓛 f.ended stayed c (y (block_ptr b o) (block_ptr b' o')) v r (tt, (tt, (tt, (ws.1.1.1.0, tt)))) (tt, (tt, (tt, (same, tt))))) $
    move ! (1 ∷ 2 ∷ 0 ∷ []) $ nothing ! $ move ! (1 ∷ 0 ∷ []) $ join ! $ nothing ! $ join ! $ nothing ! $ join ! $ nothing ! $ join ! $ move ! (3 ∷ []) $ group ! 3 $ done !)))))))))))))
