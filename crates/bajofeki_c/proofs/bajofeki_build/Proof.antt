-- What is made is written there.
use Rattle.bajofeki_c.proofs.Walking.{[], ◌∷◌, refl, proved, full_share, id⊢, ftrue, froom, fex, fsep, flft, named, vunit, fact, tables, ‵, raw, ◌⊛◌, some, later, prop, ◌$◌, ◌∵◌, !, qed, done, move, drop, use1, use2, split, fsplit, join, fjoin, fpack, pick, await, regoal, suffices, group, feq_i, enter, of_opd, unit_lit, stop, init, assigns, no_more, and_then, returns, alloc_all, pass_all, free_all, look_at, get, through, sets, lands_as, u8, yes, Is, shows, part_at, part_in, lone, Ptr, RawPtr, block_ptr, in_a_block, room_at, rawptr_vals, rawptr_Tells, plain, nothing, peeks, heard, calls_at, lasts, triple_of, Stays, walk_of, stay_dropped, Goes-dropped, ends_at, framed, WpFn}
use Rattle.std.proofs.Common.{◌++◌}
use denote.RattleType.{owns}
use denote.Signature.{types_at}
use denote.Builtin.{SliceRefOf}
use denote.Slice.{shr_slice_vals, shr_slice_Tells, shr_slice_Lawful}
use Rattle.std.specs.contracts.alloc.Global as heap
use Rattle.std.proofs.alloc.Global.TheLaws as heap_laws
use Rattle.std_heap.proofs.Handle.{heap_val, heap_Tells}
use Rattle.bajofeki_c.specs.contracts.held.Held.{the_row}
use Rattle.bajofeki_c.specs.declared.held.Held.{Held}
use Rattle.bajofeki_c.specs.Room.{held_at}
use Rattle.bajofeki_c.specs.Built.{IsMade}
use Rattle.bajofeki_c.proofs.held.Held.TheLaws.{the_row_laws}
use Rattle.bajofeki_c.specs.contracts.bajofeki_build as f
use Rattle.bajofeki_c.proofs.bajofeki_build.Statement.{statement}
use Rattle.bajofeki_c.proofs.bajofeki_build.Code as code
use Rattle.bajofeki_c.specs.contracts.held.make as g
use Rattle.bajofeki_c.proofs.held.make.Met.{met}

abbrev stayed : Stays f.ended.signature.params f.ended.kept
stayed = (stay_dropped _ yes, (stay_dropped _ yes, (stay_dropped _ yes, tt)))

pub bajofeki_build_spec : {M : Type 1} → statement M
bajofeki_build_spec 𝓤 𝓛 𝓜 𝓡 wired =
    let c = f.clauses 𝓛 𝓜.mem 𝓡.returns in let W = walk_of 𝓛 f.ended stayed c in let 𝓣 = tables 𝓤 𝓛.H 𝓜 𝓡 𝓡.env in
    proved 𝓛 f.ended stayed c 𝓜 𝓡 (
      Goes-dropped 𝓛 1 (plain (λ _. RawPtr)) yes (λ κs x w. refl),
      (
        Goes-dropped 𝓛 1 (plain (λ _. heap.the_row)) yes (λ κs x w. refl),
        (Goes-dropped 𝓛 1 (SliceRefOf (0 ∷ []) tt (plain (λ _. u8)) (λ κs. tt)) yes (λ κs x w. refl), tt),
      ),
    )
    f.Key.name code.function (code.unfolded 𝓤 𝓛.H 𝓜 𝓡 wired)
    (λ κs. (rawptr_vals, ((λ _. heap_val ∷ []), (shr_slice_vals, tt)))) (λ κs. (rawptr_Tells, (heap_Tells, (shr_slice_Tells (named 0) κs.0 u8, tt)))) (λ κs qs bounds a _ are.
    let s = a.1.1.0 in
    let y : Ptr → W.Ghost = λ p. ((κs, qs, bounds, (p, a.1), (rawptr_vals p, (heap_val ∷ [], (shr_slice_vals s, tt)))), tt) in
    let G = triple_of 𝓛 g.signature (g.spec 𝓛 𝓜.mem 𝓡.returns) in
    let z : G.Ghost = ((κs, qs, bounds, a.1, (heap_val ∷ [], (shr_slice_vals s, tt))), tt) in
    qed 𝓛 (((‵ (flft κs.0 qs.0) ⊛ ‵ ftrue) ⊛ ‵ (owns (types_at f.signature.params κs) a (y a.0).0.4)) ∷ ‵ (room_at the_row a.0) ∷ []) ∵
    split ! $ move ! (1 ∷ []) $ fsplit ! $ drop ! $ move ! (1 ∷ 0 ∷ []) $ join ! $ move ! (1 ∷ []) $
    in_a_block ! a.0 (λ p. room_at the_row p) (id⊢ 𝓤 _) (λ b o e.
    regoal ! (λ p. prop (WpFn 𝓤 𝓛.H 𝓣.C 𝓣.Λ code.function ((rawptr_vals p) ++ (heap_val ∷ shr_slice_vals s)) (W.post (y p)))) e refl $
    -- [room; the token, with the handle and the bytes]
    enter ! _ _ _ _ _ $ alloc_all ! (λ l. pass_all ! refl (
      (tt, tt),
      (
        ((heap_laws.the_row_laws.lawful 𝓛).typed a.1.0 _ are.1.0).0,
        (((shr_slice_Lawful 𝓛 (named 0) κs.0 u8).typed s _ are.1.1.0).0, tt),
      ),
    ) $
    sets ! (of_opd ! (get ! refl)) refl (tt, tt) $
    move ! (1 ∷ []) $ nothing ! $ move ! (1 ∷ 0 ∷ []) $ use2 𝓛 (raw (G.pre z)) (id⊢ 𝓤 _) $
    calls_at ! (framed 𝓤 𝓛.H 𝓜 𝓣) G (met 𝓤 𝓛 𝓜 𝓡 (code.calls-bajofeki_c::held::make 𝓡.env wired)) z
    (and_then ! (get ! refl) (and_then ! (get ! refl) (no_more !))) (λ v.
    use1 𝓛 (later (some (λ (r : Held). ((‵ (flft κs.0 qs.0) ⊛ ‵ ftrue) ⊛ ‵ (the_row.own_val r (v ∷ []))) ⊛
    some (λ (ws : Unit {0} × (Unit {0} × Unit {0})). ‵ (lasts g.ended κs a.1 ws) ⊛ raw (fact 𝓤 (IsMade s.now r)))))) (id⊢ 𝓤 _) $
    await ! tt $ pick ! (λ r. split ! $ split ! $ move ! (2 ∷ []) $ pick ! (λ ws. split ! $ drop ! $ heard ! (IsMade s.now r) (λ made.
    -- [the token; what is made; room]
    move ! (1 ∷ []) $ peeks ! the_row (Is the_row) (shows 𝓛 the_row) r (v ∷ []) (λ is.
    let good = ((the_row_laws.lawful 𝓛).typed r (v ∷ []) is).0 in
    lands_as ! refl refl good $
    move ! (2 ∷ []) $ use1 𝓛 (‵ (froom (lone the_row.mir) b o)) (id⊢ 𝓤 _) $
    assigns ! (of_opd ! (get ! refl)) (through ! refl (stop !)) (init ! 0 refl good) $
    sets ! (of_opd ! (unit_lit !)) refl (tt, tt) $
    returns ! (look_at ! 0 refl) $ free_all ! refl $
    use2 𝓛 (‵ (part_at the_row full_share r b o)) (part_in 𝓛 the_row refl full_share r b o v) $
    nothing ! $ fpack ! (IsMade s.now r) (λ _. ftrue) made $ move ! (1 ∷ 0 ∷ []) $ fjoin ! $
    fpack ! Held (λ h. fsep (held_at (block_ptr b o) h) (fex (IsMade s.now h) (λ _. ftrue))) r $
    suffices ! _ (ends_at 𝓛 f.ended stayed c (y (block_ptr b o)) vunit tt (tt, (tt, (tt, tt))) (tt, (tt, (tt, tt)))) $
    feq_i ! _ (vunit ∷ []) _ refl $ nothing ! $ nothing ! $ join ! $ nothing ! $ join ! $ nothing ! $ join ! $ move ! (3 ∷ []) $ group ! 3 $ done !))))))))
