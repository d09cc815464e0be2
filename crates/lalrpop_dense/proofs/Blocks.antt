-- Matches that are found ahead, and what is prepaid.
use Rattle.std.proofs.Common.{◌≡◌, ◌≢◌, ℕ, zero, suc, ◌+◌, ◌*◌, ◌<◌, ◌≤◌, ◌-◌, List, [], ◌++◌, length, take, drop, refl, sym, ap, subst, ◌∙◌, arith, length-drop, length-take, Bor}
use Rattle.std.specs.Prelude.{Option, Some, None, IfSome}
use Rattle.std.specs.Option.{option_map}
use Rattle.std.specs.Str.{chars, IsUtf8, IsCharBoundary}
use Rattle.std.specs.Char.{encode_utf8}
use Rattle.std.proofs.lemmas.List.{take-append-drop, take_at}
use Rattle.std.proofs.lemmas.Str.{IsUtf8-past_char, IsCharBoundary-at_seam}
use Rattle.lalrpop_hir.specs.Tree.{Tree}
use Rattle.lalrpop_hir.specs.Prefix.{IsPrefix}
use Rattle.lalrpop_hir.specs.Longest.{IsLongest}
use Rattle.lalrpop_dfa.specs.Dfa.{Row, Recognizes}
use Rattle.lalrpop_dfa.specs.Lookahead.{ReadsAtMost}
use Rattle.lalrpop_dense.specs.Leading.{IsEnd}
use Rattle.lalrpop_dense.specs.Matching.{Matching, rest_of}
use Rattle.lalrpop_dense.specs.Internal.Memory.{Memory}
use Rattle.lalrpop_dense.specs.Internal.Standing.{spare_of}
use Rattle.lalrpop_dense.specs.Internal.Blocks.{Rest, bytes_of, chars_from, IsSettled, prepaid_of, IsNextMatch, IsPrepaid, IsPaidFor}
use Rattle.lalrpop_dense.proofs.Standings.{chars_behind, count_between}
use Rattle.lalrpop_hir.proofs.StartLaws.{few_chars}
use Rattle.lalrpop_dense.proofs.Cuttings.{some_char}

-- a text begins with its first character
pub first_char : (rest r a : List ℕ) (c size : ℕ) → IsUtf8 rest → r ≡ rest → r ≡ encode_utf8 c ++ a → size ≡ length (encode_utf8 c) → IsCharBoundary rest size × (take size rest ≡ encode_utf8 c)
first_char rest r a c size u same e long =
    let split : rest ≡ encode_utf8 c ++ a = sym same ∙ e in (
      subst (λ (n : ℕ). IsCharBoundary rest n) (sym long) (IsCharBoundary-at_seam rest (encode_utf8 c) a split (IsUtf8-past_char rest a c u split)),
      ap (take size) split ∙ take_at (encode_utf8 c) a size (sym long),
    )

-- ---- what is handed out

pub length_between : (text : List ℕ) (at end : ℕ) → at ≤ end → end ≤ length text → length (take (end - at) (drop at text)) ≡ end - at
length_between text at end behind within = omega (arith, length-take (end - at) (drop at text), length-drop at text)

-- the match that ends there is a prefix of the rest
pub ahead_prefix : (d : List Row) (text slice : List ℕ) (at index end : ℕ) → IsUtf8 slice → IsEnd d text at index end → slice ≡ take (end - at) (drop at text)
    → IsPrefix slice (drop at text) × (slice ≢ [])
ahead_prefix d text slice at index end u e is =
    let behind : at ≤ end = omega (arith, e.some) in
    let long : length slice ≡ end - at = ap length is ∙ length_between text at end behind e.boundary.0 in (
      (drop (end - at) (drop at text), (sym (take-append-drop (end - at) (drop at text)) ∙ ap (λ (p : List ℕ). p ++ drop (end - at) (drop at text)) (sym is), u)),
      λ none. omega (arith, ap length none, long, e.some),
    )

-- ---- what is prepaid

-- after a prefix of the rest, each of its characters has prepaid a step
pub settled_behind : (text p : List ℕ) (credit settled at : ℕ) → IsPrefix p (drop at text) → IsSettled text credit settled at → IsSettled text credit settled (at + length p)
settled_behind text p credit settled at b h = record {
  boundary = h.boundary;
  behind = omega (arith, h.behind);
  more = omega (arith, h.more, chars_behind text p at b);
  few = h.few;
}

pub prepaid_behind : (text p : List ℕ) (credit settled at : ℕ) → IsPrefix p (drop at text) → IsSettled text credit settled at
    → prepaid_of text credit settled (at + length p) ≡ prepaid_of text credit settled at + length (chars p)
prepaid_behind text p credit settled at b h = omega (arith, h.more, chars_behind text p at b)

-- what the characters up to the rest prepay is in the credit
pub settled_here : (text waiting : List ℕ) (credit settled at count : ℕ) → IsCharBoundary text at → IsSettled text credit settled at → waiting ≡ take (at - settled) (drop settled text)
    → IsUtf8 waiting → count ≤ length (chars waiting) → IsSettled text (credit + count) at at
settled_here text waiting credit settled at count here h is u counted = record {
  boundary = here;
  behind = omega arith;
  more = omega arith;
  few = omega (arith, h.few, h.behind, counted, few_chars waiting u, ap length is, length_between text settled at h.behind here.0);
}

pub prepaid_here : (text waiting : List ℕ) (credit settled at : ℕ) → IsSettled text credit settled at → waiting ≡ take (at - settled) (drop settled text)
    → IsUtf8 waiting → prepaid_of text credit settled at ≡ credit + length (chars waiting)
prepaid_here text waiting credit settled at h is u = omega (arith, count_between text waiting settled at h.behind is u)

-- ---- one match after another

-- what is left of a text, and what is to spare
abbrev pub with_spare : Rest → ℕ → Matching
with_spare r spare = record { automaton = r.automaton; text = r.text; at = r.at; spare = spare }

-- a match that was found ahead is handed out
pub record IsHandedOut (r r2 : Rest) (m : ℕ × Bor (List ℕ)) (before after : ℕ) : Type 0 where
  pub answer : (ts : List Tree) (ps : List ℕ) → Recognizes r.automaton ts ps → IsLongest ts ps (bytes_of r) (Some (m.0, m.1.now))
  pub prefix : IsPrefix m.1.now (bytes_of r) × (m.1.now ≢ [])
  pub goes_on : r2 ≡ record r { at = r.at + length m.1.now }
  pub counted : after ≡ before + length (chars m.1.now)

pub handed_next : (r r2 : Rest) (m : ℕ × Bor (List ℕ)) (spare spare2 before after : ℕ) → IsHandedOut r r2 m before after
    → IsNextMatch (with_spare r spare) (with_spare r2 spare2) (Some m)
handed_next r r2 m spare spare2 before after h = record {
  answer = h.answer;
  prefix = h.prefix;
  goes_on = ap (λ (x : Rest). with_spare x spare2) h.goes_on;
  stays = tt;
}

-- each character of it is read once, and prepays another step
pub handed_prepaid : (r r2 : Rest) (m : ℕ × Bor (List ℕ)) (credit settled before after : ℕ) → IsSettled r.text credit settled r.at → IsHandedOut r r2 m before after
    → IsPrepaid (with_spare r (prepaid_of r.text credit settled r.at)) (with_spare r2 (prepaid_of r2.text credit settled r2.at)) (Some m) before after
handed_prepaid r r2 m credit settled before after b h =
    let more : prepaid_of r2.text credit settled r2.at ≡ prepaid_of r.text credit settled r.at + length (chars m.1.now) =
    ap (λ (x : Rest). prepaid_of x.text credit settled x.at) h.goes_on ∙ prepaid_behind r.text m.1.now credit settled r.at h.prefix.0 b in
    prepays _ _ m before after h.counted more
  where
    prepays : (old new : Matching) (m : ℕ × Bor (List ℕ)) (before after : ℕ) → after ≡ before + length (chars m.1.now) → new.spare ≡ old.spare + length (chars m.1.now)
        → IsPrepaid old new (Some m) before after
    prepays old new m before after counted more = record {
      never_falls = omega arith;
      paid = λ n most.
          let e : (n + 2) * length (chars m.1.now) ≡ n * length (chars m.1.now) + 2 * length (chars m.1.now) = grind arith in
          omega arith;
      cost = tt;
    }

-- with a memo nothing is prepaid
pub handed_paid : (r r2 : Rest) (m : ℕ × Bor (List ℕ)) (spare spare2 before after : ℕ) → spare2 ≤ spare + 64 → IsHandedOut r r2 m before after
    → IsPaidFor (with_spare r spare) (with_spare r2 spare2) (Some m) before after
handed_paid r r2 m spare spare2 before after more h = record { paid = omega (arith, h.counted); read = omega (arith, h.counted) }

-- before a match is found, the credit pays for what is read in vain
pub next_through : (s0 s1 s2 : Matching) (found : Option (ℕ × Bor (List ℕ))) → s1 ≡ record s0 { spare = s1.spare } → IsNextMatch s1 s2 found → IsNextMatch s0 s2 found
next_through s0 s1 s2 (Some m) e h = record {
  answer = subst (λ (x : Matching). (ts : List Tree) (ps : List ℕ) → Recognizes x.automaton ts ps → IsLongest ts ps (rest_of x) (Some (m.0, m.1.now))) e h.answer;
  prefix = subst (λ (x : Matching). IsPrefix m.1.now (rest_of x) × (m.1.now ≢ [])) e h.prefix;
  goes_on = subst (λ (x : Matching). s2 ≡ record x { at = x.at + length m.1.now; spare = s2.spare }) e h.goes_on;
  stays = tt;
}
next_through s0 s1 s2 None e h = record {
  answer = subst (λ (x : Matching). (ts : List Tree) (ps : List ℕ) → Recognizes x.automaton ts ps → IsLongest ts ps (rest_of x) None) e h.answer;
  prefix = tt;
  goes_on = tt;
  stays = subst (λ (x : Matching). s2 ≡ record x { spare = s2.spare }) e h.stays;
}

pub prepaid_through : (s0 s1 s2 : Matching) (found : Option (ℕ × Bor (List ℕ))) (before between after : ℕ) → s1 ≡ record s0 { spare = s1.spare }
    → between + s1.spare ≡ before + s0.spare → IsPrepaid s1 s2 found between after → IsPrepaid s0 s2 found before after
prepaid_through s0 s1 s2 (Some m) before between after e same h =
    let d : s1.automaton ≡ s0.automaton = ap (λ (x : Matching). x.automaton) e in
    record {
      never_falls = omega (arith, same, h.never_falls);
      paid = λ n most. omega (arith, same, h.paid n (subst (λ (x : List Row). ReadsAtMost x n) (sym d) most));
      cost = tt;
    }
prepaid_through s0 s1 s2 None before between after e same h =
    let rest : length (chars (rest_of s1)) ≡ length (chars (rest_of s0)) = ap (λ (x : Matching). length (chars (rest_of x))) e in
    record {
      never_falls = omega (arith, same, h.never_falls);
      paid = λ n most. tt;
      cost = omega (arith, same, rest, h.cost);
    }

pub paid_through : (s0 s1 s2 : Matching) (found : Option (ℕ × Bor (List ℕ))) (before between after : ℕ) → between + s1.spare ≡ before + s0.spare → before ≤ between
    → IsPaidFor s1 s2 found between after → IsPaidFor s0 s2 found before after
paid_through s0 s1 s2 found before between after same grows h = record { paid = omega (arith, same, h.paid); read = omega (arith, grows, h.read) }

-- ---- without a memo

abbrev pub plain : Rest → ℕ → ℕ → Matching
plain r credit settled = with_spare r (prepaid_of r.text credit settled r.at)

abbrev pub IsMatch : Matching → Matching → Option (ℕ × Bor (List ℕ)) → ℕ → ℕ → Type 0
IsMatch s s2 found before after = IsNextMatch s s2 found × IsPrepaid s s2 found before after

-- a match that was found ahead
pub plain_handed : (r r2 : Rest) (m : ℕ × Bor (List ℕ)) (credit settled before after : ℕ) → IsSettled r.text credit settled r.at → IsHandedOut r r2 m before after
    → IsMatch (plain r credit settled) (plain r2 credit settled) (Some m) before after
plain_handed r r2 m credit settled before after h out = (handed_next r r2 m _ _ before after out, handed_prepaid r r2 m credit settled before after h out)

pub handed_settled : (r r2 : Rest) (m : ℕ × Bor (List ℕ)) (credit settled before after : ℕ) → IsSettled r.text credit settled r.at → IsHandedOut r r2 m before after
    → IsSettled r2.text credit settled r2.at
handed_settled r r2 m credit settled before after h out =
    subst (λ (x : Rest). IsSettled x.text credit settled x.at) (sym out.goes_on) (settled_behind r.text m.1.now credit settled r.at out.prefix.0 h)

-- nothing was handed out, and nothing has changed
pub plain_held : (s s2 : Matching) (r r1 : Rest) (found : Option (ℕ × Bor (List ℕ))) (credit settled before after : ℕ) → plain r credit settled ≡ s → r1 ≡ r
    → IsMatch (plain r1 credit settled) s2 found before after → IsMatch s s2 found before after
plain_held s s2 r r1 found credit settled before after is same b =
    subst (λ (x : Matching). IsMatch x s2 found before after) is (subst (λ (x : Rest). IsMatch (plain x credit settled) s2 found before after) same b)

pub less_credit : (r r1 : Rest) (credit settled vain : ℕ) → IsSettled r.text credit settled r.at → r1 ≡ r → IsSettled r1.text (credit - vain) settled r1.at
less_credit r r1 credit settled vain h same =
    subst (λ (x : Rest). IsSettled x.text (credit - vain) settled x.at) (sym same) (record { boundary = h.boundary; behind = h.behind; more = h.more; few = omega (arith, h.few) })

-- the bytes that were read in vain are paid for
pub plain_block : (s s2 : Matching) (r r1 : Rest) (found : Option (ℕ × Bor (List ℕ))) (credit settled vain before between after : ℕ) → plain r credit settled ≡ s → r1 ≡ r → vain ≤ credit
    → between ≡ before + vain → IsMatch (plain r1 (credit - vain) settled) s2 found between after → IsMatch s s2 found before after
plain_block s s2 r r1 found credit settled vain before between after is same few counted b =
    let c : IsMatch (plain r (credit - vain) settled) s2 found between after = subst (λ (x : Rest). IsMatch (plain x (credit - vain) settled) s2 found between after) same b in
    let s1 : Matching = plain r (credit - vain) settled in
    let s0 : Matching = plain r credit settled in
    subst (λ (x : Matching). IsMatch x s2 found before after) is
    (next_through s0 s1 s2 found refl c.0, prepaid_through s0 s1 s2 found before between after refl (omega arith) c.1)

-- a match that is found alone
pub alone_some : (s s2 : Matching) (d : List Row) (rest : List ℕ) (m : ℕ × Bor (List ℕ)) (before after : ℕ) → d ≡ s.automaton → rest ≡ rest_of s
    → ((ts : List Tree) (ps : List ℕ) → Recognizes d ts ps → IsLongest ts ps rest (Some (m.0, m.1.now))) → IsPrefix m.1.now rest × (m.1.now ≢ [])
    → s2 ≡ record s { at = s.at + length m.1.now; spare = s2.spare } → s2.spare + 1 ≡ s.spare + length (chars m.1.now)
    → ((n : ℕ) → ReadsAtMost d n → after ≤ before + length (chars m.1.now) + n + 1) → before + length (chars m.1.now) ≤ after → IsMatch s s2 (Some m) before after
alone_some s s2 d rest m before after same e answer prefix goes more looked read =
    let some : 0 < length (chars m.1.now) = some_char m.1.now prefix.0.1.1 prefix.1 in (
      record {
        answer = λ ts ps r. subst (λ (t : List ℕ). IsLongest ts ps t (Some (m.0, m.1.now))) e (answer ts ps (subst (λ (x : List Row). Recognizes x ts ps) (sym same) r));
        prefix = subst (λ (r : List ℕ). IsPrefix m.1.now r × (m.1.now ≢ [])) e prefix;
        goes_on = goes;
        stays = tt;
      },
      record {
        never_falls = omega (arith, more, read, some);
        paid = λ n most. pays n (length (chars m.1.now)) before after s.spare s2.spare some more (looked n (subst (λ (x : List Row). ReadsAtMost x n) (sym same) most));
        cost = tt;
      },
    )
  where
    pays : (n a before after spare spare2 : ℕ) → 0 < a → spare2 + 1 ≡ spare + a → after ≤ before + a + n + 1 → after + spare2 ≤ before + (n + 2) * a + spare
    pays n zero before after spare spare2 some more all = absurd (omega arith)
    pays n (suc a) before after spare spare2 some more all =
        let e : (n + 2) * suc a ≡ (n + 2) + (n * a + 2 * a) = grind arith in
        omega arith

-- or by a run of the automaton, where nothing is prepaid
pub run_some : (d : List Row) (text rest : List ℕ) (at : ℕ) (m : ℕ × Bor (List ℕ)) (before after : ℕ) → rest ≡ drop at text
    → ((ts : List Tree) (ps : List ℕ) → Recognizes d ts ps → IsLongest ts ps rest (Some (m.0, m.1.now))) → IsPrefix m.1.now rest × (m.1.now ≢ [])
    → ((n : ℕ) → ReadsAtMost d n → after ≤ before + length (chars m.1.now) + n + 1) → before + length (chars m.1.now) ≤ after
    → IsMatch (record { automaton = d; text = text; at = at; spare = 0 }) (record { automaton = d; text = text; at = at + length m.1.now; spare = 0 }) (Some m) before after
run_some d text rest at m before after e answer prefix looked read =
    let some : 0 < length (chars m.1.now) = some_char m.1.now prefix.0.1.1 prefix.1 in (
      record {
        answer = λ ts ps r. subst (λ (t : List ℕ). IsLongest ts ps t (Some (m.0, m.1.now))) e (answer ts ps r);
        prefix = subst (λ (r : List ℕ). IsPrefix m.1.now r × (m.1.now ≢ [])) e prefix;
        goes_on = refl;
        stays = tt;
      },
      record {
        never_falls = omega (arith, read);
        paid = λ n most. enough n (length (chars m.1.now)) before after some (looked n most);
        cost = tt;
      },
    )
  where
    enough : (n a before after : ℕ) → 0 < a → after ≤ before + a + n + 1 → after + 0 ≤ before + (n + 2) * a + 0
    enough n zero before after some all = absurd (omega arith)
    enough n (suc a) before after some all =
        let e : (n + 2) * suc a ≡ (n + 2) + (n * a + 2 * a) = grind arith in
        omega arith

pub alone_none : (s : Matching) (d : List Row) (rest : List ℕ) (before after : ℕ) → d ≡ s.automaton → rest ≡ rest_of s
    → ((ts : List Tree) (ps : List ℕ) → Recognizes d ts ps → IsLongest ts ps rest None) → before ≤ after → after ≤ before + length (chars rest) → IsMatch s s None before after
alone_none s d rest before after same e answer never cost =
    let all : length (chars rest) ≡ length (chars (rest_of s)) = ap (λ (r : List ℕ). length (chars r)) e in (
      record {
        answer = λ ts ps r. subst (λ (t : List ℕ). IsLongest ts ps t None) e (answer ts ps (subst (λ (x : List Row). Recognizes x ts ps) (sym same) r));
        prefix = tt;
        goes_on = tt;
        stays = refl;
      },
      record { never_falls = omega arith; paid = λ n most. tt; cost = omega arith },
    )

pub record IsPassed (r2 : Rest) (s : Matching) (p : List ℕ) (credit count at : ℕ) : Type 0 where
  pub some : 1 ≤ count
  pub settles : IsSettled r2.text credit at r2.at
  pub prepays : prepaid_of r2.text credit at r2.at + 1 ≡ s.spare + length (chars p)

-- a prefix of the rest is passed, where each of its characters but one prepays a step
pub pass_settles : (r r2 : Rest) (p waiting text : List ℕ) (credit settled at count : ℕ) → r2 ≡ record r { at = r.at + length p } → IsPrefix p (bytes_of r) → p ≢ []
    → IsSettled r.text credit settled r.at → text ≡ r.text → at ≡ r2.at → IsCharBoundary r2.text at → waiting ≡ take (at - settled) (drop settled text) → IsUtf8 waiting
    → count ≡ length (chars waiting) → IsPassed r2 (plain r credit settled) p (credit + (count - 1)) count at
pass_settles r r2 p waiting text credit settled at count e b some h same here boundary is u counted =
    let here2 : at ≡ r.at + length p = here ∙ ap (λ (x : Rest). x.at) e in
    let same2 : r2.text ≡ r.text = ap (λ (x : Rest). x.text) e in
    let b2 : IsCharBoundary r.text (r.at + length p) = subst (λ (n : ℕ). IsCharBoundary r.text n) here2 (subst (λ (t : List ℕ). IsCharBoundary t at) same2 boundary) in
    let is2 : waiting ≡ take ((r.at + length p) - settled) (drop settled r.text) = is ∙ ap (λ (n : ℕ). take (n - settled) (drop settled text)) here2 ∙ ap (λ (t : List ℕ). take ((r.at + length p) - settled) (drop settled t)) same in
    let h2 = settled_behind r.text p credit settled r.at b h in
    let all = prepaid_here r.text waiting credit settled (r.at + length p) h2 is2 u in
    let more = prepaid_behind r.text p credit settled r.at b h in
    let one : 0 < length (chars p) = some_char p b.1.1 some in
    let chars_more = chars_behind r.text p r.at b in
    let count_some : 1 ≤ count = omega (arith, counted, count_between r.text waiting settled (r.at + length p) h2.behind is2 u, h.more, one, chars_more) in
    let s2 : IsSettled r.text (credit + (count - 1)) (r.at + length p) (r.at + length p) = settled_here r.text waiting credit settled (r.at + length p) (count - 1) b2 h2 is2 u (omega (arith, counted)) in
    record {
      some = count_some;
      settles = subst (λ (x : Rest). IsSettled x.text (credit + (count - 1)) at x.at) (sym e) (subst (λ (n : ℕ). IsSettled r.text (credit + (count - 1)) n (r.at + length p)) (sym here2) s2);
      prepays = subst (λ (x : Rest). prepaid_of x.text (credit + (count - 1)) at x.at + 1 ≡ prepaid_of r.text credit settled r.at + length (chars p)) (sym e)
          (subst (λ (n : ℕ). prepaid_of r.text (credit + (count - 1)) n (r.at + length p) + 1 ≡ prepaid_of r.text credit settled r.at + length (chars p)) (sym here2) (omega (arith, all, more, counted, count_some)));
    }

-- what the characters before the rest prepay goes into the credit
pub record IsCredited (r : Rest) (credit settled count at : ℕ) : Type 0 where
  pub settles : IsSettled r.text (credit + count) at r.at
  pub same : prepaid_of r.text (credit + count) at r.at ≡ prepaid_of r.text credit settled r.at

pub settles_here : (r : Rest) (waiting text : List ℕ) (credit settled at count : ℕ) → IsSettled r.text credit settled r.at → text ≡ r.text → at ≡ r.at → IsCharBoundary r.text at
    → waiting ≡ take (at - settled) (drop settled text) → IsUtf8 waiting → count ≡ length (chars waiting) → IsCredited r credit settled count at
settles_here r waiting text credit settled at count h same here boundary is u counted =
    let b : IsCharBoundary r.text r.at = subst (λ (n : ℕ). IsCharBoundary r.text n) here boundary in
    let is2 : waiting ≡ take (r.at - settled) (drop settled r.text) = is ∙ ap (λ (n : ℕ). take (n - settled) (drop settled text)) here ∙ ap (λ (t : List ℕ). take (r.at - settled) (drop settled t)) same in
    let s : IsSettled r.text (credit + count) r.at r.at = settled_here r.text waiting credit settled r.at count b h is2 u (omega (arith, counted)) in
    let all = prepaid_here r.text waiting credit settled r.at h is2 u in
    record {
      settles = subst (λ (n : ℕ). IsSettled r.text (credit + count) n r.at) (sym here) s;
      same = subst (λ (n : ℕ). prepaid_of r.text (credit + count) n r.at ≡ prepaid_of r.text credit settled r.at) (sym here) (omega (arith, all, counted));
    }

-- ---- with a memo

abbrev pub remembering : Rest → ℕ → ℕ → Memory → Matching
remembering r credit counted memo = with_spare r (spare_of r.text credit counted memo)

abbrev pub IsLinear : Matching → Matching → Option (ℕ × Bor (List ℕ)) → ℕ → ℕ → Type 0
IsLinear s s2 found before after = IsNextMatch s s2 found × IsPaidFor s s2 found before after

pub linear_handed : (r r2 : Rest) (m : ℕ × Bor (List ℕ)) (credit credit2 counted : ℕ) (memo : Memory) (before after : ℕ) → credit2 ≤ credit + 64 → IsHandedOut r r2 m before after
    → IsLinear (remembering r credit counted memo) (remembering r2 credit2 counted memo) (Some m) before after
linear_handed r r2 m credit credit2 counted memo before after more out =
    let same : chars_from r2.text counted ≡ chars_from r.text counted = ap (λ (x : Rest). chars_from x.text counted) out.goes_on in
    (handed_next r r2 m _ _ before after out, handed_paid r r2 m _ _ before after (omega (arith, same)) out)

pub linear_block : (s s2 : Matching) (r r1 : Rest) (found : Option (ℕ × Bor (List ℕ))) (credit counted : ℕ) (memo : Memory) (vain before between after : ℕ) → remembering r credit counted memo ≡ s
    → r1 ≡ r → vain ≤ credit → between ≡ before + vain → IsLinear (remembering r1 (credit - vain) counted memo) s2 found between after → IsLinear s s2 found before after
linear_block s s2 r r1 found credit counted memo vain before between after is same few more b =
    let c : IsLinear (remembering r (credit - vain) counted memo) s2 found between after = subst (λ (x : Rest). IsLinear (remembering x (credit - vain) counted memo) s2 found between after) same b in
    let s1 : Matching = remembering r (credit - vain) counted memo in
    let s0 : Matching = remembering r credit counted memo in
    subst (λ (x : Matching). IsLinear x s2 found before after) is (next_through s0 s1 s2 found refl c.0, paid_through s0 s1 s2 found before between after (omega arith) (omega arith) c.1)

-- nothing was handed out, and nothing has changed
pub linear_held : (s s2 : Matching) (r r1 : Rest) (found : Option (ℕ × Bor (List ℕ))) (credit counted : ℕ) (memo : Memory) (before after : ℕ) → remembering r credit counted memo ≡ s → r1 ≡ r
    → IsLinear (remembering r1 credit counted memo) s2 found before after → IsLinear s s2 found before after
linear_held s s2 r r1 found credit counted memo before after is same b =
    subst (λ (x : Matching). IsLinear x s2 found before after) is (subst (λ (x : Rest). IsLinear (remembering x credit counted memo) s2 found before after) same b)

-- a match that is sought alone
pub sought_some : (s : Matching) (r r2 : Rest) (d : List Row) (rest : List ℕ) (found : Option (ℕ × Bor (List ℕ))) (m : ℕ × Bor (List ℕ)) (spare spare2 : ℕ) → found ≡ Some m → with_spare r spare ≡ s
    → d ≡ r.automaton → rest ≡ bytes_of r → ((ts : List Tree) (ps : List ℕ) → Recognizes d ts ps → IsLongest ts ps rest (option_map (λ m. (m.0, m.1.now)) found))
    → IfSome found (λ m. IsPrefix m.1.now rest × (m.1.now ≢ [])) → r2 ≡ record r { at = r.at + length m.1.now } → IsNextMatch s (with_spare r2 spare2) found
sought_some s r r2 d rest found m spare spare2 is view same e answer prefix goes =
    let a : (ts : List Tree) (ps : List ℕ) → Recognizes d ts ps → IsLongest ts ps rest (Some (m.0, m.1.now)) =
    subst (λ (o : Option (ℕ × Bor (List ℕ))). (ts : List Tree) (ps : List ℕ) → Recognizes d ts ps → IsLongest ts ps rest (option_map (λ m. (m.0, m.1.now)) o)) is answer in
    let b : IsPrefix m.1.now rest × (m.1.now ≢ []) = subst (λ (o : Option (ℕ × Bor (List ℕ))). IfSome o (λ m. IsPrefix m.1.now rest × (m.1.now ≢ []))) is prefix in
    let made : IsNextMatch (with_spare r spare) (with_spare r2 spare2) (Some m) =
    record {
      answer = λ ts ps k. subst (λ (t : List ℕ). IsLongest ts ps t (Some (m.0, m.1.now))) e (a ts ps (subst (λ (x : List Row). Recognizes x ts ps) (sym same) k));
      prefix = subst (λ (t : List ℕ). IsPrefix m.1.now t × (m.1.now ≢ [])) e b;
      goes_on = ap (λ (x : Rest). with_spare x spare2) goes;
      stays = tt;
    } in
    subst (λ (o : Option (ℕ × Bor (List ℕ))). IsNextMatch s (with_spare r2 spare2) o) (sym is) (subst (λ (x : Matching). IsNextMatch x (with_spare r2 spare2) (Some m)) view made)

pub sought_none : (s : Matching) (r : Rest) (d : List Row) (rest : List ℕ) (found : Option (ℕ × Bor (List ℕ))) (spare spare2 : ℕ) → found ≡ None → with_spare r spare ≡ s → d ≡ r.automaton
    → rest ≡ bytes_of r → ((ts : List Tree) (ps : List ℕ) → Recognizes d ts ps → IsLongest ts ps rest (option_map (λ m. (m.0, m.1.now)) found)) → IsNextMatch s (with_spare r spare2) found
sought_none s r d rest found spare spare2 is view same e answer =
    let a : (ts : List Tree) (ps : List ℕ) → Recognizes d ts ps → IsLongest ts ps rest None =
    subst (λ (o : Option (ℕ × Bor (List ℕ))). (ts : List Tree) (ps : List ℕ) → Recognizes d ts ps → IsLongest ts ps rest (option_map (λ m. (m.0, m.1.now)) o)) is answer in
    let made : IsNextMatch (with_spare r spare) (with_spare r spare2) None =
    record {
      answer = λ ts ps k. subst (λ (t : List ℕ). IsLongest ts ps t None) e (a ts ps (subst (λ (x : List Row). Recognizes x ts ps) (sym same) k));
      prefix = tt;
      goes_on = tt;
      stays = refl;
    } in
    subst (λ (o : Option (ℕ × Bor (List ℕ))). IsNextMatch s (with_spare r spare2) o) (sym is) (subst (λ (x : Matching). IsNextMatch x (with_spare r spare2) None) view made)
