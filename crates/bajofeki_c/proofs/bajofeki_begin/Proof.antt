-- The lexer is lent on, what begins is written, and lent to a function that says how it begins.
use Rattle.bajofeki_c.proofs.Walking.{◌≡◌, ℕ, [], ◌∷◌, refl, w64, proved, full_share, id⊢, Lft, Incl-refl, ftrue, flft, flent, fsep, fex, froom, named, vptr, vint, fact, tables, ‵, raw, ◌⊛◌, some, later, prop, ◌$◌, ◌∵◌, !, qed, done, move, drop, use1, use2, split, fsplit, join, fjoin, fpack, pick, await, regoal, suffices, group, enter, of_opd, addr, init, assigns, stop, no_more, and_then, returns, alloc_all, pass_all, free_all, look_at, get, through, sets, lands_as, lft_new, lft_end, lent_back, usize, yes, Is, shows, lends_shr, part_at, part_in, lone, uint_vals, uint_Tells, uint_Lawful, Ptr, RawPtr, block_ptr, in_a_block, rawptr_vals, rawptr_Tells, ShrRef, plain, nothing, heard, peeks, calls_at, lasts, triple_of, Stays, walk_of, stay_dropped, Goes-dropped, ends_at, framed, WpFn, ⊑_static}
use Rattle.std.proofs.Common.{◌++◌, w32}
use denote.Builtin.{u32}
use denote.RattleType.{owns}
use denote.Signature.{types_at}
use denote.Struct.Lending.{lent_at}
use Rattle.std.specs.contracts.alloc.Global as heap
use Rattle.std.proofs.alloc.Global.TheLaws as heap_laws
use Rattle.std_heap.proofs.Handle.{heap_val, heap_Tells}
use Rattle.bajofeki_c.specs.Room.{seen_at, cutting_at, room_for_cutting}
use Rattle.bajofeki_c.specs.contracts.held.Held.{the_row}
use Rattle.bajofeki_c.specs.contracts.cutting.Cutting as cutting
use Rattle.bajofeki_c.specs.declared.cutting.Cutting.{Cutting}
use Rattle.bajofeki_c.specs.Cutting.{IsBegun, begin_code}
use Rattle.bajofeki_c.proofs.Seen.{seen, none_at_null, lent_out}
use Rattle.bajofeki_c.proofs.cutting.Cutting.TheLaws as cutting_laws
use Rattle.bajofeki_c.specs.contracts.bajofeki_begin as f
use Rattle.bajofeki_c.proofs.bajofeki_begin.Statement.{statement}
use Rattle.bajofeki_c.proofs.bajofeki_begin.Code as code
use Rattle.bajofeki_c.specs.contracts.cutting.begin as g
use Rattle.bajofeki_c.proofs.cutting.begin.Met.{met}
use Rattle.bajofeki_c.specs.contracts.cutting.code_of as told
use Rattle.bajofeki_c.proofs.cutting.code_of.Met as told_thm

abbrev stayed : Stays f.ended.signature.params f.ended.kept
stayed = (stay_dropped _ yes, (stay_dropped _ yes, (stay_dropped _ yes, (stay_dropped _ yes, tt))))

pub bajofeki_begin_spec : {M : Type 1} → statement M
bajofeki_begin_spec 𝓤 𝓛 𝓜 𝓡 wired =
    let c = f.clauses 𝓛 𝓜.mem 𝓡.returns in let W = walk_of 𝓛 f.ended stayed c in let 𝓣 = tables 𝓤 𝓛.H 𝓜 𝓡 𝓡.env in
    let goes = Goes-dropped 𝓛 0 (plain (λ _. RawPtr)) yes (λ κs x w. refl) in
    proved 𝓛 f.ended stayed c 𝓜 𝓡
    (goes, (goes, (Goes-dropped 𝓛 0 (plain (λ _. heap.the_row)) yes (λ κs x w. refl), (Goes-dropped 𝓛 0 (plain (λ _. usize)) yes (λ κs x w. refl), tt))))
    f.Key.name code.function (code.unfolded 𝓤 𝓛.H 𝓜 𝓡 wired)
    (λ κs. (rawptr_vals, (rawptr_vals, ((λ _. heap_val ∷ []), (uint_vals w64, tt)))))
    (λ κs. (rawptr_Tells, (rawptr_Tells, (heap_Tells, (uint_Tells w64, tt))))) (λ κs qs bounds a h are.
    let n = a.1.1.1.0 in let κ = h.lifetime in let q = h.share in
    let y : Ptr → Ptr → W.Ghost = λ p p'. ((κs, qs, bounds, (p, (p', a.1.1)), (rawptr_vals p, (rawptr_vals p', (heap_val ∷ [], (vint w64 n ∷ [], tt))))), h) in
    let G = triple_of 𝓛 g.signature (g.spec 𝓛 𝓜.mem 𝓡.returns) in
    let T = triple_of 𝓛 told.signature (told.spec 𝓛 𝓜.mem 𝓡.returns) in
    qed 𝓛 ((‵ ftrue ⊛ ‵ (owns (types_at f.signature.params κs) a (y a.0 a.1.0).0.4)) ∷ (‵ (seen_at a.0 h) ⊛ ‵ (room_for_cutting a.1.0)) ∷ []) ∵
    split ! $ drop ! $ fsplit ! $ drop ! $ fsplit ! $ drop ! $ move ! (1 ∷ []) $ split ! $
    -- [the lexer; room for the cut; the handle with the size]
    in_a_block ! a.0 (λ p. seen_at p h) (none_at_null 𝓛 h) (λ b o e.
    regoal ! (λ p. prop (WpFn 𝓤 𝓛.H 𝓣.C 𝓣.Λ code.function (rawptr_vals p ++ (rawptr_vals a.1.0 ++ (heap_val ∷ vint w64 n ∷ []))) (W.post (y p a.1.0)))) e refl $ move ! (1 ∷ []) $
    in_a_block ! a.1.0 (λ p. room_for_cutting p) (id⊢ 𝓤 _) (λ b' o' e'.
    regoal ! (λ p. prop (WpFn 𝓤 𝓛.H 𝓣.C 𝓣.Λ code.function (rawptr_vals (block_ptr b o) ++ (rawptr_vals p ++ (heap_val ∷ vint w64 n ∷ []))) (W.post (y (block_ptr b o) p)))) e' refl $ move ! (1 ∷ []) $
    use1 𝓛 ((‵ ((ShrRef (named 0) κ the_row).own_val (seen h b o) (vptr b o ∷ [])) ⊛ ‵ (flft κ q)) ⊛ ‵ (lent_at the_row (block_ptr b o) h.held κ)) (lent_out 𝓛 h b o) $ split ! $ split ! $
    -- [the `&`; its token; the `&` again; room for the cut; the handle with the size]
    enter ! _ _ _ _ _ $ alloc_all ! (λ l. pass_all ! refl ((tt, tt), ((tt, tt), (((heap_laws.the_row_laws.lawful 𝓛).typed a.1.1.0 _ are.1.1.0).0, ((tt, record { fits = are.1.1.1.0.1 }), tt)))) $
    sets ! (of_opd ! (get ! refl)) refl (tt, tt) $ sets ! (of_opd ! (get ! refl)) refl (tt, tt) $
    sets ! (addr ! (through ! refl (stop !))) refl (tt, tt) $
    let z : G.Ghost = (((κ, tt), (q, tt), tt, (seen h b o, a.1.1), (vptr b o ∷ [], (heap_val ∷ [], (vint w64 n ∷ [], tt)))), tt) in
    move ! (0 ∷ 4 ∷ []) $ fjoin ! $ nothing ! $ move ! (2 ∷ 0 ∷ []) $ join ! $ join ! $ nothing ! $ move ! (1 ∷ 0 ∷ []) $ use2 𝓛 (raw (G.pre z)) (id⊢ 𝓤 _) $
    calls_at ! (framed 𝓤 𝓛.H 𝓜 𝓣) G (met 𝓤 𝓛 𝓜 𝓡 (code.calls-bajofeki_c::cutting::begin 𝓡.env wired)) z
    (and_then ! (get ! refl) (and_then ! (get ! refl) (and_then ! (get ! refl) (no_more !)))) (λ v.
    use1 𝓛 (later (some (λ (r : Cutting). ((‵ (flft κ q) ⊛ ‵ ftrue) ⊛ ‵ (cutting.the_row.own_val r (v ∷ []))) ⊛
    some (λ (ws : Unit {0} × (Unit {0} × (Unit {0} × Unit {0}))). ‵ (lasts g.ended z.0.0 z.0.3 ws) ⊛ raw (fact 𝓤 (IsBegun h.held n r)))))) (id⊢ 𝓤 _) $
    await ! tt $ pick ! (λ r. split ! $ split ! $ split ! $ move ! (4 ∷ 0 ∷ []) $ fjoin ! $ move ! (1 ∷ []) $ drop ! $
    -- [the lexer; the cut; what the callee says; room for the cut]
    move ! (2 ∷ []) $ pick ! (λ ws. split ! $ drop ! $ heard ! (IsBegun h.held n r) (λ begun.
    move ! (1 ∷ []) $ peeks ! cutting.the_row (Is cutting.the_row) (shows 𝓛 cutting.the_row) r (v ∷ []) (λ is.
    let good = ((cutting_laws.the_row_laws.lawful 𝓛).typed r (v ∷ []) is).0 in
    lands_as ! refl refl good $
    move ! (2 ∷ []) $ use1 𝓛 (‵ (froom (lone cutting.the_row.mir) b' o')) (id⊢ 𝓤 _) $
    assigns ! (of_opd ! (get ! refl)) (through ! refl (stop !)) (init ! 0 refl good) $
    use2 𝓛 (‵ (part_at cutting.the_row full_share r b' o')) (part_in 𝓛 cutting.the_row refl full_share r b' o' v) $
    -- [the cut; the lexer]
    sets ! (of_opd ! (get ! refl)) refl (tt, tt) $ sets ! (addr ! (through ! refl (stop !))) refl (tt, tt) $
    lft_new ! tt (λ α. let ν : Lft = α ∷ [] in move ! (1 ∷ 0 ∷ []) $
    use2 𝓛 (later ((‵ ((ShrRef (named 0) ν cutting.the_row).own_val (record { ref_ptr = (b', o'); now = r }) (vptr b' o' ∷ []))
    ⊛ ‵ (flent ν (part_at cutting.the_row full_share r b' o'))) ⊛ ‵ (flft ν full_share)))
    (lends_shr 𝓛 cutting.the_row (named 0) ν full_share r b' o' cutting.the_row.lives (cutting_laws.the_row_laws.shares 𝓛 r) ((ν, full_share) ∷ []) (⊑_static ν) (Incl-refl ν)) $
    await ! tt $ split ! $ split ! $
    -- [the `&`; the right to the cut; its token; the lexer]
    let x : T.Ghost = (((ν, tt), (full_share, tt), tt, (record { ref_ptr = (b', o'); now = r }, tt), (vptr b' o' ∷ [], tt)), tt) in
    nothing ! $ move ! (1 ∷ 0 ∷ []) $ join ! $ nothing ! $ move ! (3 ∷ 0 ∷ []) $ join ! $ join ! $
    nothing ! $ move ! (1 ∷ 0 ∷ []) $ use2 𝓛 (raw (T.pre x)) (id⊢ 𝓤 _) $
    calls_at ! (framed 𝓤 𝓛.H 𝓜 𝓣) T (told_thm.met 𝓤 𝓛 𝓜 𝓡 (code.calls-bajofeki_c::cutting::code_of 𝓡.env wired)) x
    (and_then ! (get ! refl) (no_more !)) (λ u.
    use1 𝓛 (later (some (λ (k : ℕ). ((‵ (flft ν full_share) ⊛ ‵ ftrue) ⊛ ‵ (u32.own_val k (u ∷ []))) ⊛
    some (λ (ws' : Unit {0} × Unit {0}). ‵ (lasts told.ended x.0.0 x.0.3 ws') ⊛ raw (fact 𝓤 (k ≡ begin_code r)))))) (id⊢ 𝓤 _) $
    await ! tt $ pick ! (λ k. split ! $ split ! $ split ! $ lft_end ! tt $ move ! (0 ∷ 4 ∷ []) $ lent_back ! tt $
    -- [the cut; nothing; the code; what the callee says; the lexer]
    move ! (2 ∷ []) $ peeks ! u32 (Is u32) (shows 𝓛 u32) k (u ∷ []) (λ is_code.
    lands_as ! refl refl ((uint_Lawful 𝓛 w32).typed k _ is_code).0 $
    move ! (3 ∷ []) $ pick ! (λ ws'. split ! $ drop ! $ heard ! (k ≡ begin_code r) (λ same.
    returns ! (look_at ! 0 refl) $ free_all ! refl $ move ! (2 ∷ []) $ drop ! $ move ! (1 ∷ []) $ nothing ! $
    fpack ! (IsBegun h.held n r × (k ≡ begin_code r)) (λ _. ftrue) (begun, same) $ move ! (1 ∷ 0 ∷ []) $ fjoin ! $
    fpack ! Cutting (λ d. fsep (cutting_at (block_ptr b' o') d) (fex (IsBegun h.held n d × (k ≡ begin_code d)) (λ _. ftrue))) r $
    move ! (2 ∷ 0 ∷ []) $ join ! $ move ! (1 ∷ []) $
    suffices ! _ (ends_at 𝓛 f.ended stayed c (y (block_ptr b o) (block_ptr b' o')) u k (tt, (tt, (tt, (tt, tt)))) (tt, (tt, (tt, (tt, tt))))) $
    nothing ! $ nothing ! $ join ! $ nothing ! $ join ! $ nothing ! $ join ! $ nothing ! $ join ! $ nothing ! $ group ! 3 $ done !)))))))))))))))
