-- The lexer is lent on, and the cut is lent for a lifetime that is made for the call; the handle and the size are passed on.
use Rattle.bajofeki_c.proofs.Walking.{◌≡◌, ℕ, [], ◌∷◌, refl, w64, proved, full_share, id⊢, Lft, ftrue, flft, flent, fsep, fex, named, vptr, vint, fact, tables, ‵, raw, ◌⊛◌, some, later, prop, ◌$◌, ◌∵◌, !, qed, done, move, drop, use1, use2, use3, split, fsplit, join, fjoin, fpack, pick, await, regoal, suffices, group, enter, of_opd, addr, stop, no_more, and_then, returns, alloc_all, pass_all, free_all, look_at, get, through, sets, lands_as, lft_new, lft_end, usize, yes, Is, shows, uint_vals, uint_Tells, uint_Lawful, Ptr, RawPtr, block_ptr, in_a_block, rawptr_vals, rawptr_Tells, ShrRef, MutRef, MutBor, plain, nothing, heard, peeks, calls_at, lasts, triple_of, Stays, walk_of, stay_dropped, Goes-dropped, ends_at, framed, WpFn}
use Rattle.std.proofs.Common.{◌++◌, w32}
use types.SemTy.{Body}
use denote.Builtin.{u32}
use denote.Lend.{lends_ref, ref_back}
use denote.Memory.{mem}
use denote.RattleType.{owns}
use denote.Signature.{types_at}
use denote.Struct.Lending.{lent_at}
use Rattle.std.specs.contracts.alloc.Global as heap
use Rattle.std.proofs.alloc.Global.TheLaws as heap_laws
use Rattle.std_heap.proofs.Handle.{heap_val, heap_Tells}
use Rattle.bajofeki_c.specs.Room.{seen_at, cutting_at}
use Rattle.bajofeki_c.specs.contracts.held.Held.{the_row}
use Rattle.bajofeki_c.specs.contracts.cutting.Cutting as cutting
use Rattle.bajofeki_c.specs.declared.cutting.Cutting.{Cutting}
use Rattle.bajofeki_c.specs.Cutting.{IsBegun, WasBegun, begin_code}
use Rattle.bajofeki_c.proofs.Seen.{seen, none_at_null, lent_out}
use Rattle.bajofeki_c.specs.contracts.bajofeki_begin_again as f
use Rattle.bajofeki_c.proofs.bajofeki_begin_again.Statement.{statement}
use Rattle.bajofeki_c.proofs.bajofeki_begin_again.Code as code
use Rattle.bajofeki_c.specs.contracts.cutting.begin_again as g
use Rattle.bajofeki_c.proofs.cutting.begin_again.Met.{met}

abbrev stayed : Stays f.ended.signature.params f.ended.kept
stayed = (stay_dropped _ yes, (stay_dropped _ yes, (stay_dropped _ yes, (stay_dropped _ yes, tt))))

pub bajofeki_begin_again_spec : {M : Type 1} → statement M
bajofeki_begin_again_spec 𝓤 𝓛 𝓜 𝓡 wired =
    let c = f.clauses 𝓛 𝓜.mem 𝓡.returns in let W = walk_of 𝓛 f.ended stayed c in let 𝓣 = tables 𝓤 𝓛.H 𝓜 𝓡 𝓡.env in
    let goes = Goes-dropped 𝓛 0 (plain (λ _. RawPtr)) yes (λ κs x w. refl) in
    proved 𝓛 f.ended stayed c 𝓜 𝓡
    (goes, (goes, (Goes-dropped 𝓛 0 (plain (λ _. heap.the_row)) yes (λ κs x w. refl), (Goes-dropped 𝓛 0 (plain (λ _. usize)) yes (λ κs x w. refl), tt))))
    f.Key.name code.function (code.unfolded 𝓤 𝓛.H 𝓜 𝓡 wired)
    (λ κs. (rawptr_vals, (rawptr_vals, ((λ _. heap_val ∷ []), (uint_vals w64, tt)))))
    (λ κs. (rawptr_Tells, (rawptr_Tells, (heap_Tells, (uint_Tells w64, tt))))) (λ κs qs bounds a h are.
    let n = a.1.1.1.0 in let κ = h.view.lifetime in let q = h.view.share in
    let y : Ptr → Ptr → W.Ghost = λ p p'. ((κs, qs, bounds, (p, (p', a.1.1)), (rawptr_vals p, (rawptr_vals p', (heap_val ∷ [], (vint w64 n ∷ [], tt))))), h) in
    let G = triple_of 𝓛 g.signature (g.spec 𝓛 𝓜.mem 𝓡.returns) in
    let was_begun = raw (fact 𝓤 (WasBegun h.cutting)) in
    qed 𝓛 ((‵ ftrue ⊛ ‵ (owns (types_at f.signature.params κs) a (y a.0 a.1.0).0.4)) ∷ ((‵ (seen_at a.0 h.view) ⊛ ‵ (cutting_at a.1.0 h.cutting)) ⊛ was_begun) ∷ []) ∵
    split ! $ drop ! $ fsplit ! $ drop ! $ fsplit ! $ drop ! $ move ! (1 ∷ []) $ split ! $ split ! $
    -- [the lexer; the cut; that it was begun; the handle with the size]
    in_a_block ! a.0 (λ p. seen_at p h.view) (none_at_null 𝓛 h.view) (λ b o e.
    regoal ! (λ p. prop (WpFn 𝓤 𝓛.H 𝓣.C 𝓣.Λ code.function (rawptr_vals p ++ (rawptr_vals a.1.0 ++ (heap_val ∷ vint w64 n ∷ []))) (W.post (y p a.1.0)))) e refl $ move ! (1 ∷ []) $
    in_a_block ! a.1.0 (λ p. cutting_at p h.cutting) (id⊢ 𝓤 _) (λ b' o' e'.
    regoal ! (λ p. prop (WpFn 𝓤 𝓛.H 𝓣.C 𝓣.Λ code.function (rawptr_vals (block_ptr b o) ++ (rawptr_vals p ++ (heap_val ∷ vint w64 n ∷ []))) (W.post (y (block_ptr b o) p)))) e' refl $ move ! (1 ∷ []) $
    use1 𝓛 ((‵ ((ShrRef (named 0) κ the_row).own_val (seen h.view b o) (vptr b o ∷ [])) ⊛ ‵ (flft κ q)) ⊛ ‵ (lent_at the_row (block_ptr b o) h.view.held κ))
    (lent_out 𝓛 h.view b o) $ split ! $ split ! $
    -- [the `&`; its token; the `&` again; the cut; that it was begun; the handle with the size]
    enter ! _ _ _ _ _ $ alloc_all ! (λ l. pass_all ! refl ((tt, tt), ((tt, tt), (((heap_laws.the_row_laws.lawful 𝓛).typed a.1.1.0 _ are.1.1.0).0, ((tt, record { fits = are.1.1.1.0.1 }), tt)))) $
    sets ! (of_opd ! (get ! refl)) refl (tt, tt) $ sets ! (addr ! (through ! refl (stop !))) refl (tt, tt) $
    sets ! (of_opd ! (get ! refl)) refl (tt, tt) $ sets ! (addr ! (through ! refl (stop !))) refl (tt, tt) $
    lft_new ! tt (λ α. let ν : Lft = α ∷ [] in move ! (4 ∷ []) $
    use1 𝓛 (later (some (λ (γ : ℕ). ‵ ((MutRef (named 1) ν cutting.the_row).own_val (record { ref_ptr = (b', o'); ghost_name = γ; now = h.cutting }) (vptr b' o' ∷ []))
    ⊛ ‵ (flent ν (Body (mem cutting.the_row) b' o' γ)))))
    (lends_ref 𝓛 cutting.the_row (named 1) ν h.cutting b' o') $ await ! tt $ pick ! (λ γ. split ! $
    -- [the `&mut`; the right to the cut; its token; the `&`; its token; the `&` again; that it was begun; the handle with the size]
    let lent : MutBor Cutting = record { ref_ptr = (b', o'); ghost_name = γ; now = h.cutting } in
    let z : G.Ghost = (((κ, (ν, tt)), (q, (full_share, tt)), tt, (seen h.view b o, (lent, a.1.1)), (vptr b o ∷ [], (vptr b' o' ∷ [], (heap_val ∷ [], (vint w64 n ∷ [], tt))))), tt) in
    move ! (0 ∷ 7 ∷ []) $ fjoin ! $ move ! (3 ∷ 0 ∷ []) $ fjoin ! $ nothing ! $
    -- [nothing; what is passed; the right to the cut; its token; the token of the `&`; the `&` again; that it was begun]
    move ! (3 ∷ 0 ∷ []) $ join ! $ move ! (3 ∷ 0 ∷ []) $ join ! $ join ! $
    move ! (0 ∷ 3 ∷ []) $ use2 𝓛 (raw (G.pre z)) (id⊢ 𝓤 _) $
    calls_at ! (framed 𝓤 𝓛.H 𝓜 𝓣) G (met 𝓤 𝓛 𝓜 𝓡 (code.calls-bajofeki_c::cutting::begin_again 𝓡.env wired)) z
    (and_then ! (get ! refl) (and_then ! (get ! refl) (and_then ! (get ! refl) (and_then ! (get ! refl) (no_more !))))) (λ v.
    use1 𝓛 (later (some (λ (r : ℕ). ((‵ (flft κ q) ⊛ ‵ (flft ν full_share) ⊛ ‵ ftrue) ⊛ ‵ (u32.own_val r (v ∷ []))) ⊛
    some (λ (ws : Unit {0} × (Cutting × (Unit {0} × (Unit {0} × Unit {0})))). ‵ (lasts g.ended z.0.0 z.0.3 ws)
    ⊛ (raw (fact 𝓤 (IsBegun h.view.held n ws.1.0)) ⊛ raw (fact 𝓤 (r ≡ begin_code ws.1.0))))))) (id⊢ 𝓤 _) $
    await ! tt $ pick ! (λ r. split ! $ split ! $ split ! $ move ! (1 ∷ []) $ split ! $ lft_end ! tt $
    -- [the cut's lifetime is over; nothing; the token of the `&`; the result; what the callee says; the right to the cut; the `&`]
    move ! (3 ∷ []) $ peeks ! u32 (Is u32) (shows 𝓛 u32) r (v ∷ []) (λ is.
    lands_as ! refl refl ((uint_Lawful 𝓛 w32).typed r _ is).0 $
    move ! (4 ∷ []) $ pick ! (λ ws. split ! $ move ! (1 ∷ []) $ split ! $
    heard ! (IsBegun h.view.held n ws.1.0) (λ begun. heard ! (r ≡ begin_code ws.1.0) (λ same.
    fsplit ! $ drop ! $ fsplit ! $ fsplit ! $ move ! (1 ∷ 2 ∷ []) $ drop ! $ drop ! $
    -- [the cut's last value; the result; its lifetime is over; nothing; the token of the `&`; the right to the cut; the `&`]
    move ! (2 ∷ 5 ∷ 0 ∷ []) $ use3 𝓛 (later (‵ (cutting_at (block_ptr b' o') ws.1.0))) (ref_back 𝓛 cutting.the_row ν γ ws.1.0 b' o') $ await ! tt $
    move ! (4 ∷ 3 ∷ []) $ fjoin ! $
    -- [the lexer; the cut; the result; nothing]
    returns ! (look_at ! 0 refl) $ free_all ! refl $ move ! (1 ∷ []) $ nothing ! $
    fpack ! (IsBegun h.view.held n ws.1.0 × (r ≡ begin_code ws.1.0)) (λ _. ftrue) (begun, same) $ move ! (1 ∷ 0 ∷ []) $ fjoin ! $
    fpack ! Cutting (λ d. fsep (cutting_at (block_ptr b' o') d) (fex (IsBegun h.view.held n d × (r ≡ begin_code d)) (λ _. ftrue))) ws.1.0 $
    move ! (1 ∷ 0 ∷ []) $ join ! $ move ! (1 ∷ 0 ∷ []) $
    suffices ! _ (ends_at 𝓛 f.ended stayed c (y (block_ptr b o) (block_ptr b' o')) v r (tt, (tt, (tt, (tt, tt)))) (tt, (tt, (tt, (tt, tt))))) $
    nothing ! $ nothing ! $ join ! $ nothing ! $ join ! $ nothing ! $ join ! $ nothing ! $ join ! $ move ! (3 ∷ []) $ group ! 3 $ done !))))))))))))
