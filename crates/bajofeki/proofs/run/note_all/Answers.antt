use Rattle.std.proofs.Common.{◌≡◌, ℕ, ◌+◌, ◌-◌, true, false, List, ◌∷◌, length, sym, ap, subst, ◌∙◌, arith, ⊎_elim}
use Rattle.std.specs.Char.{encode_utf8}
use Rattle.std.specs.Str.{chars}
use Rattle.std.specs.Str.Iter.{char_indices_rest, char_indices_offset}
use Rattle.lalrpop_hir.proofs.TextWords.{chars-none}
use Rattle.lalrpop_hir.proofs.Cuts.{cut_more, cut_start}
use Rattle.lalrpop_lexer.proofs.TextWalks.{next_at}
use Rattle.lalrpop_dfa.specs.declared.Kind.TheVariants.{Neither}
use Rattle.bajofeki.specs.Internal.Walking.{IsMet, next_of, says}
use Rattle.bajofeki.specs.Internal.Noted.{IsKnown, IsNoted, IsOver}
use Rattle.bajofeki.proofs.Walking.{met_next}
use Rattle.bajofeki.proofs.Noting.{first_below, over_open, noted_sound}
use Rattle.bajofeki.proofs.NewNotes.{AreCounted, char_size, counted_all, counted_end, counted_next, counted_none, noted_all, noted_next, noted_none}
use Rattle.bajofeki.proofs.run.note_all.Goals as goal
use Rattle.bajofeki.proofs.run.note_all.Goals.{then-end-until-via-then-end-until, then-end-until-via-else-end-until+then-not-is_open}

pub is_open-requires-clause-met : goal.is_open-requires-clause-met
is_open-requires-clause-met c =
    let s = c.in-Some.ensures.steps in
    let inv = c.loop-offset.invariant in
    let word = next_at c.args.text.now (char_indices_rest c.loop-offset.offset-iterator) (char_indices_rest c.next.new.self) (char_indices_offset c.loop-offset.offset-iterator) c.in-Some.c inv.cut s.1 in
    let below = first_below (char_indices_rest c.loop-offset.offset-iterator) c.in-Some.c (chars (char_indices_rest c.next.new.self)) inv.cut.rest_utf8 word in
    subst (IsMet c.args.walker.now) (sym c.next-place.ensures) (met_next c.args.walker.now c.loop-offset.place c.in-Some.c inv.met below)

pub overflow_sub-size : goal.overflow_sub-size
overflow_sub-size c =
    let s = c.in-Some.ensures.steps in
    let inv = c.loop-offset.invariant in
    let word = next_at c.args.text.now (char_indices_rest c.loop-offset.offset-iterator) (char_indices_rest c.next.new.self) (char_indices_offset c.loop-offset.offset-iterator) c.in-Some.c inv.cut s.1 in
    let below = first_below (char_indices_rest c.loop-offset.offset-iterator) c.in-Some.c (chars (char_indices_rest c.next.new.self)) inv.cut.rest_utf8 word in
    let neither : says c.args.walker.now (next_of c.args.walker.now c.loop-offset.place c.in-Some.c) ≡ Neither =
    subst (λ (p : ℕ). says c.args.walker.now p ≡ Neither) c.next-place.ensures (c.is_open.ensures.neither.0 c.if-not-is_open.false) in
    let on = over_open c.args.walker.now c.loop-offset.place c.in-Some.c inv.over.0 (chars (char_indices_rest c.next.new.self)) below neither
    (subst (λ (v : List ℕ). IsOver c.args.walker.now c.loop-offset.place v inv.over.0) word inv.over.1.1) in
    omega (arith, on.1.0, inv.over.1.0, s.0, c.len_utf8.ensures.len)

pub loop-offset-preserved : goal.loop-offset-preserved
loop-offset-preserved c =
    let s = c.in-Some.ensures.steps in
    let inv = c.loop-offset.invariant in
    let w = c.args.walker.now in
    let text = c.args.text.now in
    let at = char_indices_offset c.loop-offset.offset-iterator in
    let at2 = char_indices_offset c.next.new.self in
    let rest = char_indices_rest c.loop-offset.offset-iterator in
    let rest2 = char_indices_rest c.next.new.self in
    let word = next_at text rest rest2 at c.in-Some.c inv.cut s.1 in
    let below = first_below rest c.in-Some.c (chars rest2) inv.cut.rest_utf8 word in
    let neither : says w (next_of w c.loop-offset.place c.in-Some.c) ≡ Neither =
    subst (λ (p : ℕ). says w p ≡ Neither) c.next-place.ensures (c.is_open.ensures.neither.0 c.if-not-is_open.false) in
    let on = over_open w c.loop-offset.place c.in-Some.c inv.over.0 (chars rest2) below neither
    (subst (λ (v : List ℕ). IsOver w c.loop-offset.place v inv.over.0) word inv.over.1.1) in
    let cut = cut_more text rest rest2 at at2 c.in-Some.c c.utf8.text inv.cut s.1 s.2 in
    let there : IsOver w c.next-place.result (chars rest2) on.0 = subst (λ (p : ℕ). IsOver w p (chars rest2) on.0) (sym c.next-place.ensures) on.1.1 in
    let left : c.args.size ≡ at2 + on.0 = omega (arith, on.1.0, inv.over.1.0, s.2) in
    let low : c.args.at + c.in-Some.offset ≡ c.args.at + at = omega (arith, s.0) in
    let high : c.args.at + (c.in-Some.offset + c.len_utf8.result) ≡ c.args.at + at2 = omega (arith, s.0, s.2, c.len_utf8.ensures.len) in
    let size : c.args.size - (c.in-Some.offset + c.len_utf8.result) ≡ on.0 = omega (arith, left, s.0, s.2, c.len_utf8.ensures.len) in
    record {
      cut = cut;
      met = subst (IsMet w) (sym c.next-place.ensures) (met_next w c.loop-offset.place c.in-Some.c inv.met below);
      over = (on.0, (left, there));
      sound = λ begin i all sum within drops old.
          noted_sound w c.loop-offset.memo c.note.new.self c.args.mode c.args.at c.next-place.result (c.args.size - (c.in-Some.offset + c.len_utf8.result)) (c.args.at + (c.in-Some.offset + c.len_utf8.result)) text rest2 at2
          cut (omega (arith, s.0, s.2, c.len_utf8.ensures.len)) (subst (λ (n : ℕ). IsOver w c.next-place.result (chars rest2) n) (sym size) there)
          c.note.ensures.only begin i all sum within drops (inv.sound begin i all sum within drops old);
      others = λ m p e n other noted.
          ⊎_elim (λ (old : IsNoted c.loop-offset.memo m p e n). inv.others m p e n other old)
          (λ (new : (m ≡ c.args.mode) × (p ≡ c.next-place.result) × (e ≡ c.args.at + (c.in-Some.offset + c.len_utf8.result)) × (n ≡ c.args.size - (c.in-Some.offset + c.len_utf8.result))). absurd (other new.0))
          (c.note.ensures.only m p e n noted);
      stays = λ m p e known. c.note.ensures.stays m p e (inv.stays m p e known);
      whole = λ whole. inv.whole (c.note.ensures.whole whole);
      near = omega (arith, s.0, s.2, c.len_utf8.ensures.len);
      cost = omega (arith, inv.cost, c.tick.ensures.counted, s.2, char_size c.in-Some.c);
      counts = omega (arith, inv.counts, c.tick.ensures.counted);
      counted = λ vain more is unknown.
          subst (AreCounted w c.args.memo.now c.args.mode c.args.at vain more at2 c.next-place.result rest2 c.args.steps.now) (sym c.tick.ensures.counted)
          (counted_next w c.args.memo.now c.args.mode c.args.at at at2 c.loop-offset.place c.next-place.result c.in-Some.c c.args.steps.now c.loop-offset.steps rest rest2 vain more word s.2
          c.next-place.ensures (inv.counted vain more is unknown));
      news = λ whole vain more is unknown.
          noted_next w c.args.memo.now c.loop-offset.memo c.note.new.self c.args.mode c.args.at at at2 c.loop-offset.place c.next-place.result c.in-Some.c text rest rest2 vain more c.utf8.text
          inv.cut s.1 s.2 c.next-place.ensures (subst (IsMet w) (sym c.next-place.ensures) (met_next w c.loop-offset.place c.in-Some.c inv.met below))
          (c.is_open.ensures.neither.0 c.if-not-is_open.false) c.note.ensures.stays
          (λ apart. subst (λ (e : ℕ). IsKnown c.note.new.self c.args.mode c.next-place.result e) high (c.note.ensures.noted whole (λ same. apart (omega (arith, low, high, same))))) (inv.news (c.note.ensures.whole whole) vain more is unknown);
    }

pub loop-offset-init : goal.loop-offset-init
loop-offset-init c =
    let same = c.into_iter-offset-iterator.ensures.into_iter_gives in
    let none : char_indices_offset c.into_iter-offset-iterator.result ≡ 0 = ap char_indices_offset same ∙ c.char_indices-offset-items.ensures.offset in
    let whole : char_indices_rest c.into_iter-offset-iterator.result ≡ c.args.text.now = ap char_indices_rest same ∙ c.char_indices-offset-items.ensures.rest in
    record {
      cut = rw (none, whole) (cut_start c.args.text.now c.utf8.text);
      met = c.requires.met;
      over = (c.args.size, (omega (arith, none), rw whole c.requires.over));
      sound = λ begin i all sum within drops old. old;
      others = λ m p e n other noted. noted;
      stays = λ m p e known. known;
      whole = λ is_whole. is_whole;
      near = omega (arith, none, c.if-until-lt-STRIDE.false);
      cost = omega arith;
      counts = omega arith;
      counted = λ vain more is unknown.
          rw (none, whole) (counted_none c.args.walker.now c.args.memo.now c.args.mode c.args.at c.args.from c.args.steps.now c.args.text.now vain more is unknown);
      news = λ is_whole vain more is unknown.
          rw (none, whole) (noted_none c.args.walker.now c.args.memo.now c.args.mode c.args.at c.args.from c.args.text.now vain more is unknown);
    }

pub returns-then-end-until-clause-news : goal.returns-then-end-until-clause-news
returns-then-end-until-clause-news c = λ much whole vain more is unknown below above within.
    let s = c.in-Some.ensures.steps in
    let inv = c.loop-offset.invariant in
    let w = c.args.walker.now in
    let at = char_indices_offset c.loop-offset.offset-iterator in
    let rest = char_indices_rest c.loop-offset.offset-iterator in
    let next = next_at c.args.text.now rest (char_indices_rest c.next.new.self) at c.in-Some.c inv.cut s.1 in
    noted_all w c.args.memo.now c.loop-offset.memo c.args.mode c.args.at at c.loop-offset.place c.args.until c.args.text.now rest vain more (inv.news whole vain more is unknown) above
    (λ b v word neither.
    let both : b ∷ v ≡ c.in-Some.c ∷ chars (char_indices_rest c.next.new.self) = sym word ∙ next in
    let first : b ≡ c.in-Some.c = cc (both) in
    let there : says w c.next-place.result ≡ Neither =
    subst (λ (p : ℕ). says w p ≡ Neither) (sym c.next-place.ensures) (subst (λ (x : ℕ). says w (next_of w c.loop-offset.place x) ≡ Neither) first neither) in
    elim c.then-end-until.branch [
      | then-end-until-via-then-end-until h ↦ omega (arith, h.if-end-until.true, s.0, c.len_utf8.ensures.upper_bound)
      | then-end-until-via-else-end-until+then-not-is_open h ↦ let both : true ≡ false = sym (h.is_open.ensures.neither.1 there) ∙ h.if-not-is_open.true in cc
    ])

pub returns-then-end-until-clause-counted : goal.returns-then-end-until-clause-counted
returns-then-end-until-clause-counted c = λ much vain more is unknown below.
    let s = c.in-Some.ensures.steps in
    let inv = c.loop-offset.invariant in
    let w = c.args.walker.now in
    let at = char_indices_offset c.loop-offset.offset-iterator in
    let rest = char_indices_rest c.loop-offset.offset-iterator in
    let next = next_at c.args.text.now rest (char_indices_rest c.next.new.self) at c.in-Some.c inv.cut s.1 in
    let all = counted_all w c.args.memo.now c.args.mode c.args.at at c.loop-offset.place c.args.steps.now c.loop-offset.steps c.args.until rest vain more (inv.counted vain more is unknown) below
    (λ b v word neither.
    let both : b ∷ v ≡ c.in-Some.c ∷ chars (char_indices_rest c.next.new.self) = sym word ∙ next in
    let first : b ≡ c.in-Some.c = cc (both) in
    let there : says w c.next-place.result ≡ Neither =
    subst (λ (p : ℕ). says w p ≡ Neither) (sym c.next-place.ensures) (subst (λ (x : ℕ). says w (next_of w c.loop-offset.place x) ≡ Neither) first neither) in
    elim c.then-end-until.branch [
      | then-end-until-via-then-end-until h ↦ omega (arith, h.if-end-until.true, s.0, c.len_utf8.ensures.len, ap (λ (x : ℕ). length (encode_utf8 x)) first)
      | then-end-until-via-else-end-until+then-not-is_open h ↦ let both : true ≡ false = sym (h.is_open.ensures.neither.1 there) ∙ h.if-not-is_open.true in cc
    ]) in
    omega (arith, all, c.tick.ensures.counted)

pub returns-clause-counted : goal.returns-clause-counted
returns-clause-counted c = λ much vain more is unknown below.
    let at = char_indices_offset c.loop-offset.offset-iterator in
    let rest = char_indices_rest c.loop-offset.offset-iterator in
    counted_end c.args.walker.now c.args.memo.now c.args.mode c.args.at at c.loop-offset.place c.args.steps.now c.loop-offset.steps rest vain more (chars-none rest c.in-None.ensures.steps.0)
    (c.loop-offset.invariant.counted vain more is unknown)
