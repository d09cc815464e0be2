-- The lexer is lent on to a function, and the array is passed on.
use Rattle.bajofeki_c.proofs.Walking.{ℕ, List, [], ◌∷◌, refl, w64, proved, id⊢, ftrue, flft, named, vptr, vint, fact, tables, ‵, raw, ◌⊛◌, some, later, prop, ◌$◌, ◌∵◌, !, qed, done, move, drop, use1, use2, split, fsplit, join, fjoin, pick, await, regoal, suffices, frame, group, feq_l, enter, of_opd, addr, stop, no_more, and_then, returns, alloc_all, pass_all, free_all, look_at, get, through, sets, lands_as, u8, usize, yes, Is, shows, uint_vals, uint_Tells, uint_Lawful, Ptr, RawPtr, block_ptr, in_a_block, rawptr_vals, rawptr_Tells, ShrRef, plain, nothing, heard, peeks, calls_at, lasts, triple_of, Stays, walk_of, says, stay_dropped, Goes-dropped, ends_at, framed, WpFn}
use Rattle.std.proofs.Common.{◌++◌}
use denote.RattleType.{owns}
use denote.Signature.{types_at}
use denote.Struct.Lending.{lent_at}
use Rattle.bajofeki_c.specs.Room.{seen_at}
use Rattle.bajofeki_c.specs.contracts.held.Held.{the_row}
use Rattle.bajofeki_c.proofs.Seen.{seen, none_at_null, lent_out}
use types.Run.{fld, hop, from}
use types.ByLocal.{get_in, look_in_at}
use types.Part.{agg, sub, whole}
use denote.Slice.{mut_slice_vals, mut_slice_Tells, mut_slice_Lawful}
use denote.Triple.Walked.{gave_slice, Goes-gave_slice}
use Rattle.bajofeki_c.specs.Rules.{IsWritten}
use Rattle.bajofeki_c.specs.Modes.{mode_name_of}
use Rattle.bajofeki_c.specs.contracts.bajofeki_mode_name as f
use Rattle.bajofeki_c.proofs.bajofeki_mode_name.Statement.{statement}
use Rattle.bajofeki_c.proofs.bajofeki_mode_name.Code as code
use Rattle.bajofeki_c.specs.contracts.modes.mode_name_into as g
use Rattle.bajofeki_c.proofs.modes.mode_name_into.Met.{met}

abbrev stayed : Stays f.ended.signature.params f.ended.kept
stayed = (stay_dropped _ yes, (stay_dropped _ yes, (gave_slice (0 ∷ []) tt (plain (λ _. u8)), tt)))

pub bajofeki_mode_name_spec : {M : Type 1} → statement M
bajofeki_mode_name_spec 𝓤 𝓛 𝓜 𝓡 wired =
    let c = f.clauses 𝓛 𝓜.mem 𝓡.returns in let W = walk_of 𝓛 f.ended stayed c in let 𝓣 = tables 𝓤 𝓛.H 𝓜 𝓡 𝓡.env in
    proved 𝓛 f.ended stayed c 𝓜 𝓡
    (Goes-dropped 𝓛 1 (plain (λ _. RawPtr)) yes (λ κs x w. refl), (Goes-dropped 𝓛 1 (plain (λ _. usize)) yes (λ κs x w. refl), (Goes-gave_slice 𝓛 1 0 tt (plain (λ _. u8)), tt)))
    f.Key.name code.function (code.unfolded 𝓤 𝓛.H 𝓜 𝓡 wired)
    (λ κs. (rawptr_vals, (uint_vals w64, (mut_slice_vals, tt)))) (λ κs. (rawptr_Tells, (uint_Tells w64, (mut_slice_Tells (named 0) κs.0 u8, tt)))) (λ κs qs bounds a h are.
    let n = a.1.0 in let m = a.1.1.0 in let κ = h.lifetime in let q = h.share in
    let y : Ptr → W.Ghost = λ p. ((κs, qs, bounds, (p, a.1), (rawptr_vals p, (vint w64 n ∷ [], (mut_slice_vals m, tt)))), h) in
    let G = triple_of 𝓛 g.signature (g.spec 𝓛 𝓜.mem 𝓡.returns) in
    let toks = ‵ (flft κs.0 qs.0) ⊛ ‵ ftrue in
    qed 𝓛 ((toks ⊛ ‵ (owns (types_at f.signature.params κs) a (y a.0).0.4)) ∷ ‵ (seen_at a.0 h) ∷ []) ∵
    split ! $ move ! (1 ∷ []) $ fsplit ! $ drop ! $ move ! (2 ∷ []) $
    -- [the lexer; the array; the tokens]
    in_a_block ! a.0 (λ p. seen_at p h) (none_at_null 𝓛 h) (λ b o e.
    regoal ! (λ p. prop (WpFn 𝓤 𝓛.H 𝓣.C 𝓣.Λ code.function (rawptr_vals p ++ ((vint w64 n ∷ []) ++ mut_slice_vals m)) (W.post (y p)))) e refl $
    use1 𝓛 ((‵ ((ShrRef (named 0) κ the_row).own_val (seen h b o) (vptr b o ∷ [])) ⊛ ‵ (flft κ q)) ⊛ ‵ (lent_at the_row (block_ptr b o) h.held κ)) (lent_out 𝓛 h b o) $ split ! $ split ! $
    -- [the `&`; its token; the `&` again; the array; the tokens]
    let array_typed = ((mut_slice_Lawful 𝓛 (named 0) κs.0 u8).typed m _ are.1.1.0).0 in
    enter ! _ _ _ _ _ $ alloc_all ! (λ l. pass_all ! refl ((tt, tt), ((tt, record { fits = are.1.0.1 }), (array_typed, tt))) $
    sets ! (of_opd ! (get ! refl)) refl (tt, tt) $ sets ! (addr ! (through ! refl (stop !))) refl (tt, tt) $
    sets ! (addr ! (from ! (fld ! refl (hop ! (look_in_at ! 3 (sub ! 0 refl (whole !))) (stop !))))) refl (tt, tt) $
    sets ! (agg ! (and_then ! (get ! refl) (and_then ! (get_in ! (fld ! refl (stop !)) (sub ! 1 refl (whole !))) (no_more !)))) refl array_typed $
    let z : G.Ghost = (((κ, κs), (q, qs), tt, (seen h b o, a.1), (vptr b o ∷ [], (vint w64 n ∷ [], (mut_slice_vals m, tt)))), tt) in
    move ! (0 ∷ 3 ∷ []) $ fjoin ! $ move ! (1 ∷ 3 ∷ []) $ join ! $ join ! $ nothing ! $ move ! (1 ∷ 0 ∷ []) $ use2 𝓛 (raw (G.pre z)) (id⊢ 𝓤 _) $
    calls_at ! (framed 𝓤 𝓛.H 𝓜 𝓣) G (met 𝓤 𝓛 𝓜 𝓡 (code.calls-bajofeki_c::modes::mode_name_into 𝓡.env wired)) z
    (and_then ! (get ! refl) (and_then ! (get ! refl) (and_then ! (get ! refl) (no_more !)))) (λ v.
    use1 𝓛 (later (some (λ (r : ℕ). ((‵ (flft κ q) ⊛ toks) ⊛ ‵ (usize.own_val r (v ∷ []))) ⊛
    some (λ (ws : Unit {0} × (Unit {0} × (List ℕ × Unit {0}))). ‵ (lasts g.ended z.0.0 z.0.3 ws) ⊛ raw (fact 𝓤 (IsWritten (mode_name_of h.held n) m.now ws.1.1.0 r)))))) (id⊢ 𝓤 _) $
    await ! tt $ pick ! (λ r. split ! $ split ! $ split ! $ move ! (4 ∷ 0 ∷ []) $ fjoin ! $
    -- [the lexer; the tokens; the result; what the callee says]
    move ! (2 ∷ []) $ peeks ! usize (Is usize) (shows 𝓛 usize) r (v ∷ []) (λ is.
    lands_as ! refl refl ((uint_Lawful 𝓛 w64).typed r (v ∷ []) is).0 $
    move ! (3 ∷ []) $ pick ! (λ ws. split ! $ move ! (1 ∷ []) $ heard ! (IsWritten (mode_name_of h.held n) m.now ws.1.1.0 r) (λ written.
    fsplit ! $ drop ! $ fsplit ! $ drop ! $ fsplit ! $ move ! (1 ∷ []) $ drop ! $ fsplit ! $ fsplit ! $ move ! (1 ∷ []) $ feq_l ! (λ same. fjoin ! $
    -- [the array; the result; the lexer; the tokens]
    returns ! (look_at ! 0 refl) $ free_all ! refl $
    suffices ! _ (ends_at 𝓛 f.ended stayed c (y (block_ptr b o)) v r (tt, (tt, (ws.1.1.0, tt))) (tt, (tt, (same, tt)))) $
    nothing ! $ move ! (1 ∷ 0 ∷ []) $ join ! $ nothing ! $ join ! $ nothing ! $ join ! $ move ! (3 ∷ []) $ group ! 3 $ frame ! $ says ! written $ done !)))))))))
