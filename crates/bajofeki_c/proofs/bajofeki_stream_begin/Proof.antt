-- The lexer is lent on, and what begins is written.
use Rattle.bajofeki_c.proofs.Walking.{[], ◌∷◌, refl, proved, full_share, id⊢, ftrue, flft, fsep, fex, froom, named, vptr, vunit, fact, tables, ‵, raw, ◌⊛◌, some, later, prop, ◌$◌, ◌∵◌, !, qed, done, move, drop, use1, use2, split, fsplit, join, fjoin, fpack, pick, await, regoal, suffices, group, feq_i, enter, of_opd, unit_lit, addr, init, assigns, stop, no_more, and_then, returns, alloc_all, pass_all, free_all, look_at, get, through, sets, lands_as, yes, Is, shows, part_at, part_in, lone, Ptr, RawPtr, block_ptr, in_a_block, rawptr_vals, rawptr_Tells, ShrRef, plain, nothing, heard, peeks, calls_at, lasts, triple_of, Stays, walk_of, stay_dropped, Goes-dropped, ends_at, framed, WpFn}
use mir.Syntax.{erased}
use Rattle.std.proofs.Common.{◌++◌}
use denote.RattleType.{owns}
use denote.Signature.{types_at}
use denote.Struct.Lending.{lent_at}
use Rattle.std.specs.contracts.alloc.Global as heap
use Rattle.std.proofs.alloc.Global.TheLaws as heap_laws
use Rattle.std_heap.proofs.Handle.{heap_val, heap_Tells}
use Rattle.bajofeki_c.specs.Room.{seen_at}
use Rattle.bajofeki_c.specs.Lent.{stream_lies_at, stream_row, room_for_stream}
use Rattle.bajofeki_c.specs.contracts.held.Held.{the_row}
use Rattle.bajofeki_c.specs.declared.stream.Stream.{Stream}
use Rattle.bajofeki_c.specs.Stream.{IsStreamBegun}
use Rattle.bajofeki_c.proofs.Seen.{seen, none_at_null, lent_out}
use Rattle.bajofeki_c.proofs.stream.Stream.TheLaws as stream_laws
use Rattle.bajofeki_c.specs.contracts.bajofeki_stream_begin as f
use Rattle.bajofeki_c.proofs.bajofeki_stream_begin.Statement.{statement}
use Rattle.bajofeki_c.proofs.bajofeki_stream_begin.Code as code
use Rattle.bajofeki_c.specs.contracts.stream.begin_stream as g
use Rattle.bajofeki_c.proofs.stream.begin_stream.Met.{met}

abbrev stayed : Stays f.ended.signature.params f.ended.kept
stayed = (stay_dropped _ yes, (stay_dropped _ yes, (stay_dropped _ yes, tt)))

pub bajofeki_stream_begin_spec : {M : Type 1} → statement M
bajofeki_stream_begin_spec 𝓤 𝓛 𝓜 𝓡 wired =
    let c = f.clauses 𝓛 𝓜.mem 𝓡.returns in let W = walk_of 𝓛 f.ended stayed c in let 𝓣 = tables 𝓤 𝓛.H 𝓜 𝓡 𝓡.env in
    let goes = Goes-dropped 𝓛 0 (plain (λ _. RawPtr)) yes (λ κs x w. refl) in
    proved 𝓛 f.ended stayed c 𝓜 𝓡
    (goes, (goes, (Goes-dropped 𝓛 0 (plain (λ _. heap.the_row)) yes (λ κs x w. refl), tt)))
    f.Key.name code.function (code.unfolded 𝓤 𝓛.H 𝓜 𝓡 wired)
    (λ κs. (rawptr_vals, (rawptr_vals, ((λ _. heap_val ∷ []), tt))))
    (λ κs. (rawptr_Tells, (rawptr_Tells, (heap_Tells, tt)))) (λ κs qs bounds a h are.
    let κ = h.lifetime in let q = h.share in let row = stream_row κ in
    let y : Ptr → Ptr → W.Ghost = λ p p'. ((κs, qs, bounds, (p, (p', a.1.1)), (rawptr_vals p, (rawptr_vals p', (heap_val ∷ [], tt)))), h) in
    let G = triple_of 𝓛 g.signature (g.spec 𝓛 𝓜.mem 𝓡.returns) in
    qed 𝓛 ((‵ ftrue ⊛ ‵ (owns (types_at f.signature.params κs) a (y a.0 a.1.0).0.4)) ∷ (‵ (seen_at a.0 h) ⊛ ‵ (room_for_stream a.1.0)) ∷ []) ∵
    split ! $ drop ! $ fsplit ! $ drop ! $ fsplit ! $ drop ! $ move ! (1 ∷ []) $ split ! $
    -- [the lexer; room for the stream; the handle]
    in_a_block ! a.0 (λ p. seen_at p h) (none_at_null 𝓛 h) (λ b o e.
    regoal ! (λ p. prop (WpFn 𝓤 𝓛.H 𝓣.C 𝓣.Λ code.function (rawptr_vals p ++ (rawptr_vals a.1.0 ++ (heap_val ∷ []))) (W.post (y p a.1.0)))) e refl $ move ! (1 ∷ []) $
    in_a_block ! a.1.0 (λ p. room_for_stream p) (id⊢ 𝓤 _) (λ b' o' e'.
    regoal ! (λ p. prop (WpFn 𝓤 𝓛.H 𝓣.C 𝓣.Λ code.function (rawptr_vals (block_ptr b o) ++ (rawptr_vals p ++ (heap_val ∷ []))) (W.post (y (block_ptr b o) p)))) e' refl $ move ! (1 ∷ []) $
    use1 𝓛 ((‵ ((ShrRef (named 0) κ the_row).own_val (seen h b o) (vptr b o ∷ [])) ⊛ ‵ (flft κ q)) ⊛ ‵ (lent_at the_row (block_ptr b o) h.held κ)) (lent_out 𝓛 h b o) $ split ! $ split ! $
    -- [the `&`; its token; the `&` again; room for the stream; the handle]
    enter ! _ _ _ _ _ $ alloc_all ! (λ l. pass_all ! refl ((tt, tt), ((tt, tt), (((heap_laws.the_row_laws.lawful 𝓛).typed a.1.1.0 _ are.1.1.0).0, tt))) $
    sets ! (of_opd ! (get ! refl)) refl (tt, tt) $ sets ! (of_opd ! (get ! refl)) refl (tt, tt) $
    sets ! (addr ! (through ! refl (stop !))) refl (tt, tt) $
    let z : G.Ghost = (((κ, tt), (q, tt), tt, (seen h b o, a.1.1), (vptr b o ∷ [], (heap_val ∷ [], tt))), tt) in
    move ! (0 ∷ 4 ∷ []) $ fjoin ! $ nothing ! $ move ! (2 ∷ 0 ∷ []) $ join ! $ join ! $ nothing ! $ move ! (1 ∷ 0 ∷ []) $ use2 𝓛 (raw (G.pre z)) (id⊢ 𝓤 _) $
    calls_at ! (framed 𝓤 𝓛.H 𝓜 𝓣) G (met 𝓤 𝓛 𝓜 𝓡 (code.calls-bajofeki_c::stream::begin_stream 𝓡.env wired)) z
    (and_then ! (get ! refl) (and_then ! (get ! refl) (no_more !))) (λ v.
    use1 𝓛 (later (some (λ (r : Stream). ((‵ (flft κ q) ⊛ ‵ ftrue) ⊛ ‵ (row.own_val r (v ∷ []))) ⊛
    some (λ (ws : Unit {0} × (Unit {0} × Unit {0})). ‵ (lasts g.ended z.0.0 z.0.3 ws) ⊛ raw (fact 𝓤 (IsStreamBegun h.held r)))))) (id⊢ 𝓤 _) $
    await ! tt $ pick ! (λ r. split ! $ split ! $ split ! $ move ! (4 ∷ 0 ∷ []) $ fjoin ! $ move ! (1 ∷ []) $ drop ! $
    -- [the lexer; the stream; what the callee says; room for the stream]
    move ! (2 ∷ []) $ pick ! (λ ws. split ! $ drop ! $ heard ! (IsStreamBegun h.held r) (λ begun.
    move ! (1 ∷ []) $ peeks ! row (Is row) (shows 𝓛 row) r (v ∷ []) (λ is.
    let good = (((stream_laws.the_row_laws (record { mir = erased; lft = κ })).lawful 𝓛).typed r (v ∷ []) is).0 in
    lands_as ! refl refl good $
    move ! (2 ∷ []) $ use1 𝓛 (‵ (froom (lone row.mir) b' o')) (id⊢ 𝓤 _) $
    assigns ! (of_opd ! (get ! refl)) (through ! refl (stop !)) (init ! 0 refl good) $
    sets ! (of_opd ! (unit_lit !)) refl (tt, tt) $
    returns ! (look_at ! 0 refl) $ free_all ! refl $
    use2 𝓛 (‵ (part_at row full_share r b' o')) (part_in 𝓛 row refl full_share r b' o' v) $
    -- [the stream; the lexer]
    nothing ! $ fpack ! (IsStreamBegun h.held r) (λ _. ftrue) begun $ move ! (1 ∷ 0 ∷ []) $ fjoin ! $
    fpack ! Stream (λ d. fsep (stream_lies_at (block_ptr b' o') κ d) (fex (IsStreamBegun h.held d) (λ _. ftrue))) r $
    move ! (1 ∷ 0 ∷ []) $ join ! $
    suffices ! _ (ends_at 𝓛 f.ended stayed c (y (block_ptr b o) (block_ptr b' o')) vunit tt (tt, (tt, (tt, tt))) (tt, (tt, (tt, tt)))) $
    feq_i ! _ (vunit ∷ []) _ refl $ nothing ! $ nothing ! $ join ! $ nothing ! $ join ! $ nothing ! $ join ! $ nothing ! $ group ! 3 $ done !)))))))))
