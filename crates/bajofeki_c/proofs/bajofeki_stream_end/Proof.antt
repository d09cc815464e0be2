-- What lies there is read, and given to a function that lets it go.
use Rattle.bajofeki_c.proofs.Walking.{[], ◌∷◌, refl, ap, proved, full_share, id⊢, ftrue, fat, flft, Val, vunit, tables, ‵, raw, ◌⊛◌, some, later, prop, ◌$◌, ◌∵◌, !, qed, done, move, drop, use1, split, fsplit, join, fjoin, pick, await, regoal, suffices, group, feq_l, feq_i, enter, of_opd, unit_lit, load, look, stop, no_more, and_then, returns, alloc_all, pass_all, free_all, look_at, get, through, sets, lands_as, unit, yes, Is, shows, part_out, lone, Ptr, RawPtr, block_ptr, in_a_block, room_at, rawptr_vals, rawptr_Tells, plain, nothing, peeks, only, calls_at, ensured, on_entry, triple_of, Stays, walk_of, stay_dropped, Goes-dropped, ends_at, framed, WpFn}
use mir.Syntax.{erased}
use Rattle.bajofeki_c.specs.Lent.{stream_at, stream_lies_at, stream_row}
use Rattle.bajofeki_c.proofs.stream.Stream.TheLaws as laws
use Rattle.bajofeki_c.specs.contracts.bajofeki_stream_end as f
use Rattle.bajofeki_c.proofs.bajofeki_stream_end.Statement.{statement}
use Rattle.bajofeki_c.proofs.bajofeki_stream_end.Code as code
use Rattle.bajofeki_c.specs.contracts.stream.let_stream_go as g
use Rattle.bajofeki_c.proofs.stream.let_stream_go.Met.{met}

abbrev stayed : Stays f.ended.signature.params f.ended.kept
stayed = (stay_dropped _ yes, tt)

pub bajofeki_stream_end_spec : {M : Type 1} → statement M
bajofeki_stream_end_spec 𝓤 𝓛 𝓜 𝓡 wired =
    let c = f.clauses 𝓛 𝓜.mem 𝓡.returns in let W = walk_of 𝓛 f.ended stayed c in let 𝓣 = tables 𝓤 𝓛.H 𝓜 𝓡 𝓡.env in
    proved 𝓛 f.ended stayed c 𝓜 𝓡 (Goes-dropped 𝓛 0 (plain (λ _. RawPtr)) yes (λ κs x w. refl), tt)
    f.Key.name code.function (code.unfolded 𝓤 𝓛.H 𝓜 𝓡 wired)
    (λ κs. (rawptr_vals, tt)) (λ κs. (rawptr_Tells, tt)) (λ κs qs bounds a h are.
    let κ = h.lifetime in let q = h.share in let row = stream_row κ in
    let y : Ptr → W.Ghost = λ p. ((κs, qs, bounds, (p, tt), (rawptr_vals p, tt)), h) in
    let G = triple_of 𝓛 g.signature (g.spec 𝓛 𝓜.mem 𝓡.returns) in
    qed 𝓛 (raw (on_entry 𝓛 f.signature κs qs a (y a.0).0.4) ∷ ‵ (stream_at a.0 h) ∷ []) ∵ drop ! $ fsplit ! $
    in_a_block ! a.0 (λ p. stream_lies_at p κ h.stream) (id⊢ 𝓤 _) (λ b o e.
    regoal ! (λ p. prop (WpFn 𝓤 𝓛.H 𝓣.C 𝓣.Λ code.function (rawptr_vals p) (W.post (y p)))) e refl $
    use1 𝓛 (some (λ (v : Val). ‵ (fat full_share (lone row.mir) b o v) ⊛ ‵ (row.own_val h.stream (v ∷ [])))) (part_out 𝓛 row refl full_share h.stream b o) $ pick ! (λ v. split ! $
    move ! (1 ∷ []) $ peeks ! row (Is row) (shows 𝓛 row) h.stream (v ∷ []) (λ is.
    let good = (((laws.the_row_laws (record { mir = erased; lft = κ })).lawful 𝓛).typed h.stream (v ∷ []) is).0 in
    -- [what is owned; its cell; the token of the lexer]
    enter ! _ _ _ _ _ $ alloc_all ! (λ l. pass_all ! refl ((tt, tt), tt) $
    sets ! (of_opd ! (get ! refl)) refl (tt, tt) $
    sets ! (of_opd ! (load ! (through ! refl (stop !)) (look ! 1 refl))) refl good $
    let z : G.Ghost = (((κ, tt), (q, tt), tt, (h.stream, tt), (v ∷ [], tt)), tt) in
    nothing ! $ move ! (1 ∷ 0 ∷ []) $ join ! $ nothing ! $ move ! (3 ∷ 0 ∷ []) $ join ! $ join ! $ nothing ! $ move ! (1 ∷ 0 ∷ []) $ join ! $ use1 𝓛 (raw (G.pre z)) (id⊢ 𝓤 _) $
    calls_at ! (framed 𝓤 𝓛.H 𝓜 𝓣) G (met 𝓤 𝓛 𝓜 𝓡 (code.calls-bajofeki_c::stream::let_stream_go 𝓡.env wired)) z
    (and_then ! (get ! refl) (no_more !)) (λ u.
    use1 𝓛 (later (some (λ (r : Unit {0}). ((‵ (flft κ q) ⊛ ‵ ftrue) ⊛ ‵ (unit.own_val r (u ∷ []))) ⊛ raw (ensured 𝓛 g.ended (g.clauses 𝓛 𝓜.mem 𝓡.returns) z.0.0 z.0.3 tt r)))) (id⊢ 𝓤 _) $
    await ! tt $ pick ! (λ r. split ! $ split ! $ split ! $ move ! (1 ∷ []) $ drop ! $ move ! (1 ∷ []) $ feq_l ! (λ is_unit. move ! (1 ∷ []) $ drop ! $
    lands_as ! (ap only is_unit) refl (tt, tt) $
    sets ! (of_opd ! (unit_lit !)) refl (tt, tt) $
    returns ! (look_at ! 0 refl) $ free_all ! refl $ move ! (1 ∷ []) $
    use1 𝓛 (‵ (room_at row (block_ptr b o))) (𝓛.laws.at_room (lone row.mir) b o v) $ fjoin ! $
    suffices ! _ (ends_at 𝓛 f.ended stayed c (y (block_ptr b o)) vunit tt (tt, tt) (tt, tt)) $
    feq_i ! _ (vunit ∷ []) _ refl $ nothing ! $ nothing ! $ join ! $ nothing ! $ group ! 3 $ done !))))))))
