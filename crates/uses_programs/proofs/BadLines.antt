-- A file of rules with a bad line says no rules, and has one bad line that comes first.
use Rattle.std.proofs.Common.{◌≡◌, ◌≢◌, ℕ, zero, suc, ◌+◌, ◌-◌, List, [], ◌∷◌, ◌++◌, Some, length, map, refl, sym, ap, subst, ◌∙◌, inl, inr, ◌⊎◌, Contains, arith, length-append}
use Rattle.std.specs.Prelude.{slice_get, chars}
use Rattle.bajofeki_rules.specs.Lines.{lines}
use Rattle.bajofeki_rules.specs.Position.{position_of}
use Rattle.lalrpop_re.specs.NamedPart.{NamedPart}
use Rattle.lalrpop_re.specs.Pattern.{IsPart}
use Rattle.lalrpop_re.proofs.PatternLaws.{one_part}
use Rattle.bajofeki_rules.specs.declared.action.Action.{Action}
use Rattle.bajofeki_rules.specs.declared.action.Action.TheVariants as action
use Rattle.lalrpop_rule_file.specs.Words.{is_blank}
use Rattle.lalrpop_rule_file.specs.RuleLine.{Mode, Push, Written, Enters, Pops, WrittenPart, WrittenRule, Section}
use Rattle.lalrpop_rule_file.specs.FileModes.{Said, Nothing, Heading, Define, Rule, AllLeadWithin, AreActions, IsAction, LeadsWithin, modes_of, initial}
use Rattle.lalrpop_rule_file.specs.FileParts.{AreParts, no_parts, one_more, IsNameColumn, parts_in}
use Rattle.lalrpop_rule_file.specs.RuleFile.{without_return, HasName, IsFirstBadPart, IsFirstRepeatedPart, IsPartBelow, LineSays, LinesSay, AreFileParts, AreRules, AreRulesBelow, IsFirstNoMode, IsLineFault, IsNoMode, IsRuleFileError}
use Rattle.lalrpop_rule_file.specs.declared.file_rule.FileRule.{FileRule}
use Rattle.lalrpop_rule_file.specs.declared.error.RuleFileError.{RuleFileError}
use Rattle.lalrpop_rule_file.specs.declared.error.RuleFileError.TheVariants.{BadLine, BadPart, RepeatedPart, NoSuchMode, OutOfMemory}
use Rattle.lalrpop_rule_file.proofs.Spans.{IsSpan-unique}
use Rattle.lalrpop_rule_file.proofs.RuleLaws.{LineSays-unique, LinesSay-unique, said_lines_have_no_bad, IsFirstBad-unique}
use Rattle.lalrpop_rule_file.proofs.StoppingLaws.{IsLineFault-unique}
use Rattle.lalrpop_rule_file.proofs.FileLines.{parts_split}
use Rattle.lalrpop_rule_file.proofs.ModeNumbers.{is_there}
use Rattle.lalrpop_rule_file.proofs.MissingLaws.{IsFirstNoMode-unique, IsNoMode-unique, missing_leads_nowhere}

-- ---- lists

-- of two items of a list one stands before the other, or they are one
compare : {X : Type 0} (ws us vs ts : List X) (w v : X) → ws ++ w ∷ vs ≡ us ++ v ∷ ts
    → ((ws ≡ us) × (w ≡ v)) ⊎ (((rest : List X) × (us ≡ ws ++ w ∷ rest)) ⊎ ((rest : List X) × (ws ≡ us ++ v ∷ rest)))
compare [] [] vs ts w v e = inl (refl, cc)
compare [] (u ∷ us) vs ts w v e = let same : w ≡ u = cc in inr (inl (us, cc))
compare (a ∷ ws) [] vs ts w v e = let same : a ≡ v = cc in inr (inr (ws, cc))
compare (a ∷ ws) (u ∷ us) vs ts w v e =
    let first : a ≡ u = cc in
    let tail : ws ++ w ∷ vs ≡ us ++ v ∷ ts = cc in
    elim (compare ws us vs ts w v tail) [
      | inl both ↦ let rest : ws ≡ us = both.0 in inl (cc (first, rest), both.1)
      | inr apart ↦ elim apart [
        | inl later ↦ let rest : us ≡ ws ++ w ∷ later.0 = later.1 in inr (inl (later.0, cc (first, rest)))
        | inr earlier ↦ let rest : ws ≡ us ++ v ∷ earlier.0 = earlier.1 in inr (inr (earlier.0, cc (first, rest)))
      ]
    ]

-- nothing stands after the end
no_more : {X : Type 0} (us rest vs : List X) (v w : X) → us ++ v ∷ [] ≡ (us ++ v ∷ rest) ++ w ∷ vs → ⊥
no_more us rest vs v w e =
    absurd (omega (arith, ap length e, length-append us (v ∷ []), length-append (us ++ v ∷ rest) (w ∷ vs), length-append us (v ∷ rest)))

no_item : {X : Type 0} (us vs : List X) (v : X) → [] ≡ us ++ v ∷ vs → ⊥
no_item us vs v e = absurd (omega (arith, ap length e, length-append us (v ∷ vs)))

-- ---- parts

AreParts-unique : (ws vs : List WrittenPart) (ps qs : List NamedPart) → ws ≡ vs → AreParts ws ps → AreParts vs qs → ps ≡ qs
AreParts-unique _ _ _ _ e no_parts no_parts = refl
AreParts-unique _ _ _ _ e no_parts (one_more {ws = us} w p parts new is) = absurd (no_item us [] w e)
AreParts-unique _ _ _ _ e (one_more {ws = us} w p parts new is) no_parts = absurd (no_item us [] w (sym e))
AreParts-unique _ _ _ _ e (one_more {ws = ws} {ps = ps} w p parts new is) (one_more {ws = us} {ps = qs} v q others own its) =
    elim (compare ws us [] [] w v e) [
      | inl both ↦
          let before : ps ≡ qs = AreParts-unique ws us ps qs both.0 parts others in
          let back = subst (λ (x : WrittenPart). IsPart qs (chars x.name) (chars x.pattern) q) (sym both.1) its in
          let here = subst (λ (x : List NamedPart). IsPart x (chars w.name) (chars w.pattern) q) (sym before) back in
          let last : p ≡ q = one_part ps (chars w.name) (chars w.pattern) p q is here in
          cc (before, last)
      | inr apart ↦ elim apart [
        | inl later ↦ absurd (no_more ws later.0 [] w v (e ∙ ap (λ (x : List WrittenPart). x ++ v ∷ []) later.1))
        | inr earlier ↦ absurd (no_more us earlier.0 [] v w (sym e ∙ ap (λ (x : List WrittenPart). x ++ w ∷ []) earlier.1))
      ]
    ]

-- each part has a name that none before it has, and is read by those before it
part_among : (all ws vs : List WrittenPart) (w : WrittenPart) (ps qs : List NamedPart) → all ≡ ws ++ w ∷ vs → AreParts all qs → AreParts ws ps
    → (¬ Contains (map (λ v. v.name) ws) w.name) × ((p : NamedPart) × IsPart ps (chars w.name) (chars w.pattern) p)
part_among _ ws vs w ps qs e no_parts before = absurd (no_item ws vs w e)
part_among _ ws vs w ps qs e (one_more {ws = us} {ps = os} v p parts new is) before =
    elim (compare us ws [] vs v w e) [
      | inl both ↦
          let known : os ≡ ps = AreParts-unique us ws os ps both.0 parts before in
          let fresh = subst (λ (x : List WrittenPart). ¬ Contains (map (λ v. v.name) x) v.name) both.0 new in
          let own = subst (λ (x : WrittenPart). IsPart os (chars x.name) (chars x.pattern) p) both.1 is in
          (subst (λ (x : WrittenPart). ¬ Contains (map (λ v. v.name) ws) x.name) both.1 fresh, (p, subst (λ (x : List NamedPart). IsPart x (chars w.name) (chars w.pattern) p) known own))
      | inr apart ↦ elim apart [
        | inl later ↦ absurd (no_more us later.0 vs v w (e ∙ ap (λ (x : List WrittenPart). x ++ w ∷ vs) later.1))
        | inr earlier ↦ part_among us ws earlier.0 w ps os earlier.1 parts before
      ]
    ]

-- what lines above a line say, and what it says, begin what all lines say
said_above : (above below : List (List ℕ)) (line : List ℕ) (said all : List Said) (s : Said) → LinesSay (above ++ line ∷ below) all → LinesSay above said → LineSays line s
    → (more : List Said) × (all ≡ said ++ s ∷ more)
said_above [] below line [] [] s g h here = absurd g
said_above [] below line [] (t ∷ all) s g h here = let same : t ≡ s = LineSays-unique line t s g.0 here in (all, cc (same))
said_above [] below line (t ∷ said) all s g h here = absurd h
said_above (l ∷ above) below line [] all s g h here = absurd h
said_above (l ∷ above) below line (t ∷ said) [] s g h here = absurd g
said_above (l ∷ above) below line (t ∷ said) (u ∷ all) s g h here =
    let same : u ≡ t = LineSays-unique l u t g.0 h.0 in
    let rest = said_above above below line said all s g.1 h.1 here in
    let tail : all ≡ said ++ s ∷ rest.0 = rest.1 in
    (rest.0, cc (same, tail))

-- a part that is bad: one above it has its name, or its pattern isn't one
record BadPartAt (ls : List (List ℕ)) (n : ℕ) : Type 0 where
  line : List ℕ
  w : WrittenPart
  said : List Said
  ps : List NamedPart
  stands : IsPartBelow ls n line w said ps
  bad : HasName said w.name ⊎ ((p : NamedPart) → ¬ IsPart ps (chars w.name) (chars w.pattern) p)

abbrev of_pattern : (ls : List (List ℕ)) (n c : ℕ) → IsFirstBadPart ls n c → BadPartAt ls n
of_pattern ls n c g = record { line = g.line; w = g.w; said = g.said; ps = g.ps; stands = g.stands; bad = inr g.bad }

abbrev of_name : (ls : List (List ℕ)) (n c : ℕ) → IsFirstRepeatedPart ls n c → BadPartAt ls n
of_name ls n c g = record { line = g.line; w = g.w; said = g.said; ps = g.ps; stands = g.stands; bad = inl g.is_there }

no_parts_with : (ls : List (List ℕ)) (n : ℕ) → BadPartAt ls n → (qs : List NamedPart) → ¬ AreFileParts ls qs
no_parts_with ls n b qs (all, (say, are)) =
    let at = b.stands in
    let split = said_above at.above at.below b.line b.said all (Define b.w) (subst (λ (x : List (List ℕ)). LinesSay x all) at.all say) at.say at.says in
    let among =
    part_among (parts_in all) (parts_in b.said) (parts_in split.0) b.w b.ps qs (ap parts_in split.1 ∙ parts_split b.said (Define b.w ∷ split.0)) are at.are_parts in
    elim b.bad [ inl there ↦ among.0 there | inr none ↦ none among.1.0 among.1.1 ]

-- it is bad in the lines up to it too
up_to : (ls above rest : List (List ℕ)) (n : ℕ) (b : BadPartAt ls n) → above ≡ b.stands.above ++ b.line ∷ rest → BadPartAt above n
up_to ls above rest n b all =
    let at = b.stands in record {
      line = b.line;
      w = b.w;
      said = b.said;
      ps = b.ps;
      bad = b.bad;
      stands = record { above = at.above; below = rest; all = all; number = at.number; say = at.say; are_parts = at.are_parts; says = at.says };
    }

-- so of two none stands above the other
one_bad_part : (ls : List (List ℕ)) (m n : ℕ) (a : BadPartAt ls m) (b : BadPartAt ls n) → (m ≡ n) × ((a.line ≡ b.line) × ((a.said ≡ b.said) × (a.w ≡ b.w)))
one_bad_part ls m n a b = by (compare at.above to.above at.below to.below a.line b.line (sym at.all ∙ to.all))
  where
    at : IsPartBelow ls m a.line a.w a.said a.ps
    at = a.stands

    to : IsPartBelow ls n b.line b.w b.said b.ps
    to = b.stands

    by : ((at.above ≡ to.above) × (a.line ≡ b.line)) ⊎ (((rest : List (List ℕ)) × (to.above ≡ at.above ++ a.line ∷ rest)) ⊎ ((rest : List (List ℕ)) × (at.above ≡ to.above ++ b.line ∷ rest)))
        → (m ≡ n) × ((a.line ≡ b.line) × ((a.said ≡ b.said) × (a.w ≡ b.w)))
    by (inl (same, one)) =
        let part : Define a.w ≡ Define b.w = LineSays-unique b.line (Define a.w) (Define b.w) (subst (λ (l : List ℕ). LineSays l (Define a.w)) one at.says) to.says in (
          at.number ∙ ap (λ (x : List (List ℕ)). length x + 1) same ∙ sym to.number,
          (one, (LinesSay-unique to.above a.said b.said (subst (λ (x : List (List ℕ)). LinesSay x a.said) same at.say) to.say, cc (part))),
        )
    by (inr (inl (rest, longer))) = absurd (no_parts_with to.above m (up_to ls to.above rest m a longer) b.ps (b.said, (to.say, to.are_parts)))
    by (inr (inr (rest, longer))) = absurd (no_parts_with at.above n (up_to ls at.above rest n b longer) a.ps (a.said, (at.say, at.are_parts)))

-- a pattern that is none is no name that is taken
not_both : (ls : List (List ℕ)) (m n c d : ℕ) → IsFirstBadPart ls m c → IsFirstRepeatedPart ls n d → ⊥
not_both ls m n c d g h =
    let one = one_bad_part ls m n (of_pattern ls m c g) (of_name ls n d h) in
    let new = subst (λ (w : WrittenPart). ¬ HasName g.said w.name) one.1.1.1 g.is_new in
    subst (λ (s : List Said). ¬ HasName s h.w.name) one.1.1.0 new h.is_there

one_name : (ls : List (List ℕ)) (m n c d : ℕ) → IsFirstRepeatedPart ls m c → IsFirstRepeatedPart ls n d → (m ≡ n) × (c ≡ d)
one_name ls m n c d g h =
    let one = one_bad_part ls m n (of_name ls m c g) (of_name ls n d h) in
    let here = subst (λ (l : List ℕ). IsNameColumn (without_return l) g.w.name c) one.1.0 g.place in
    let own = subst (λ (w : WrittenPart). IsNameColumn (without_return h.line) w.name c) one.1.1.1 here in
    let lead = IsSpan-unique is_blank (without_return h.line) own.lead own.here h.place.lead h.place.here own.blanks h.place.blanks in
    (one.0, own.counted ∙ ap (λ (l : List ℕ). (position_of (without_return h.line) (length l)).column) lead.0 ∙ sym h.place.counted)

-- ---- modes

leads : (modes : List (List ℕ)) (w : Written) (a : Action) → IsAction modes w a → LeadsWithin modes w
leads modes (Enters Mode name) (action.Mode n) is = is_there modes name n is
leads modes (Enters Push name) (action.Push n) is = is_there modes name n is
leads modes Pops a is = tt
leads modes w a is = absurd is

all_lead : (modes : List (List ℕ)) (ws : List Written) (acts : List Action) → AreActions modes ws acts → AllLeadWithin modes ws
all_lead modes [] acts are = tt
all_lead modes (w ∷ ws) [] are = absurd are
all_lead modes (w ∷ ws) (a ∷ acts) are = (leads modes w a are.0, all_lead modes ws acts are.1)

-- a line that is no rule has no action: in two of them the first one with a mode that is missing would be both
no_mode_in : (modes : List (List ℕ)) (l : List ℕ) (s : Said) (c : ℕ) → LineSays l s → ((w : WrittenRule) → s ≢ Rule w) → ¬ IsNoMode modes (without_return l) c
no_mode_in modes l (Rule w) c say other g = absurd (other w refl)
no_mode_in modes l s c say other g = absurd (omega (arith, IsFirstNoMode-unique modes (l ∷ l ∷ []) (s ∷ s ∷ []) (suc zero) (suc (suc zero)) c c (say, (say, tt)) g g))

-- where a mode is missing, the lines say no rules
no_rules_with : (modes : List (List ℕ)) (ls : List (List ℕ)) (said : List Said) (n c : ℕ) (section : Section) (rs : List FileRule) → LinesSay ls said
    → IsFirstNoMode modes ls said n c → ¬ AreRulesBelow modes section said rs
no_rules_with modes [] [] n c section rs say g are = g
no_rules_with modes [] (s ∷ said) n c section rs say g are = say
no_rules_with modes (l ∷ ls) [] n c section rs say g are = say
no_rules_with modes (l ∷ ls) (s ∷ said) zero c section rs say g are = g
no_rules_with modes (l ∷ ls) (Rule w ∷ said) (suc zero) c section [] say g are = are
no_rules_with modes (l ∷ ls) (Rule w ∷ said) (suc zero) c section (r ∷ rs) say g are =
    missing_leads_nowhere modes (without_return l) c w g say.0.1 (all_lead modes w.head.actions r.actions.items are.0.acts)
no_rules_with modes (l ∷ ls) (s ∷ said) (suc zero) c section rs say g are = no_mode_in modes l s c say.0 (λ w e. cc (e)) g
no_rules_with modes (l ∷ ls) (Nothing ∷ said) (suc (suc n)) c section rs say g are = no_rules_with modes ls said (suc n) c section rs say.1 g are
no_rules_with modes (l ∷ ls) (Heading next ∷ said) (suc (suc n)) c section rs say g are = no_rules_with modes ls said (suc n) c next rs say.1 g are
no_rules_with modes (l ∷ ls) (Define part ∷ said) (suc (suc n)) c section rs say g are = no_rules_with modes ls said (suc n) c section rs say.1 g are
no_rules_with modes (l ∷ ls) (Rule w ∷ said) (suc (suc n)) c section [] say g are = are
no_rules_with modes (l ∷ ls) (Rule w ∷ said) (suc (suc n)) c section (r ∷ rs) say g are = no_rules_with modes ls said (suc n) c section rs say.1 g.1 are.1

-- and in that line one stands first
one_mode : (modes : List (List ℕ)) (ls : List (List ℕ)) (said : List Said) (n c d : ℕ) → IsFirstNoMode modes ls said n c → IsFirstNoMode modes ls said n d → c ≡ d
one_mode modes [] said n c d g h = absurd g
one_mode modes (l ∷ ls) [] n c d g h = absurd g
one_mode modes (l ∷ ls) (s ∷ said) zero c d g h = absurd g
one_mode modes (l ∷ ls) (s ∷ said) (suc zero) c d g h = IsNoMode-unique modes (without_return l) c d g h
one_mode modes (l ∷ ls) (Nothing ∷ said) (suc (suc n)) c d g h = one_mode modes ls said (suc n) c d g h
one_mode modes (l ∷ ls) (Heading section ∷ said) (suc (suc n)) c d g h = one_mode modes ls said (suc n) c d g h
one_mode modes (l ∷ ls) (Define part ∷ said) (suc (suc n)) c d g h = one_mode modes ls said (suc n) c d g h
one_mode modes (l ∷ ls) (Rule w ∷ said) (suc (suc n)) c d g h = one_mode modes ls said (suc n) c d g.1 h.1

-- ---- the error of a file

-- the bytes have a bad line
abbrev pub HasBadLine : List ℕ → RuleFileError → Type 0
HasBadLine bytes error = IsRuleFileError bytes error × (error ≢ OutOfMemory)

-- then they are no rules
pub no_rules : (bytes : List ℕ) (e : RuleFileError) (modes : List (List ℕ)) (fs : List FileRule) (ps : List NamedPart) → HasBadLine bytes e → AreRules (lines bytes) modes fs
    → ¬ AreFileParts (lines bytes) ps
no_rules bytes (BadLine n c fault) modes fs ps (is, some) rules parts = said_lines_have_no_bad (lines bytes) rules.said n rules.lines_say is.0
no_rules bytes (BadPart n c kind) modes fs ps (is, some) rules parts = no_parts_with (lines bytes) n (of_pattern (lines bytes) n c is.0) ps parts
no_rules bytes (RepeatedPart n c) modes fs ps (is, some) rules parts = no_parts_with (lines bytes) n (of_name (lines bytes) n c is.0) ps parts
no_rules bytes (NoSuchMode n c) modes fs ps (((said, (say, is)), others), some) rules parts =
    let same = LinesSay-unique (lines bytes) said rules.said say rules.lines_say in
    let here = subst (λ (s : List Said). IsFirstNoMode (modes_of s) (lines bytes) s n c) same is in
    let its = subst (λ (ms : List (List ℕ)). IsFirstNoMode ms (lines bytes) rules.said n c) (sym rules.are_modes) here in
    no_rules_with modes (lines bytes) rules.said n c initial fs rules.lines_say its rules.are_rules
no_rules bytes OutOfMemory modes fs ps (is, some) rules parts = some refl

-- errors of one line, and but for a bad pattern of a part at one place and of one kind
abbrev pub IsSameError : RuleFileError → RuleFileError → Type 0
IsSameError (BadPart m c k) (BadPart n d j) = m ≡ n
IsSameError e f = e ≡ f

-- and it is one
pub one_error : (bytes : List ℕ) (e f : RuleFileError) → HasBadLine bytes e → HasBadLine bytes f → IsSameError e f
one_error bytes (BadLine m c k) (BadLine n d j) (g, some) (h, any) =
    let lines_same = IsFirstBad-unique (lines bytes) m n g.0 h.0 in
    let at = subst (λ (x : ℕ). slice_get (lines bytes) (x - 1) ≡ Some g.1.0) lines_same g.1.1.0 in
    let line : g.1.0 ≡ h.1.0 = cc (at, h.1.1.0) in
    let both = IsLineFault-unique h.1.0 c d k j (subst (λ (l : List ℕ). IsLineFault l c k) line g.1.1.1) h.1.1.1 in
    let columns : c ≡ d = both.0 in
    let faults : k ≡ j = both.1 in
    cc (lines_same, columns, faults)
one_error bytes (BadLine m c k) (BadPart n d j) (g, some) (h, any) = absurd (said_lines_have_no_bad (lines bytes) h.1.0 m h.1.1 g.0)
one_error bytes (BadLine m c k) (RepeatedPart n d) (g, some) (h, any) = absurd (said_lines_have_no_bad (lines bytes) h.1.0 m h.1.1 g.0)
one_error bytes (BadLine m c k) (NoSuchMode n d) (g, some) (h, any) = absurd (said_lines_have_no_bad (lines bytes) h.0.0 m h.0.1.0 g.0)
one_error bytes (BadPart m c k) (BadLine n d j) (g, some) (h, any) = absurd (said_lines_have_no_bad (lines bytes) g.1.0 n g.1.1 h.0)
one_error bytes (RepeatedPart m c) (BadLine n d j) (g, some) (h, any) = absurd (said_lines_have_no_bad (lines bytes) g.1.0 n g.1.1 h.0)
one_error bytes (NoSuchMode m c) (BadLine n d j) (g, some) (h, any) = absurd (said_lines_have_no_bad (lines bytes) g.0.0 n g.0.1.0 h.0)
one_error bytes (BadPart m c k) (BadPart n d j) (g, some) (h, any) = (one_bad_part (lines bytes) m n (of_pattern (lines bytes) m c g.0) (of_pattern (lines bytes) n d h.0)).0
one_error bytes (BadPart m c k) (RepeatedPart n d) (g, some) (h, any) = absurd (not_both (lines bytes) m n c d g.0 h.0)
one_error bytes (RepeatedPart m c) (BadPart n d j) (g, some) (h, any) = absurd (not_both (lines bytes) n m d c h.0 g.0)
one_error bytes (RepeatedPart m c) (RepeatedPart n d) (g, some) (h, any) = let one = one_name (lines bytes) m n c d g.0 h.0 in cc (one.0, one.1)
one_error bytes (BadPart m c k) (NoSuchMode n d) (g, some) (h, any) = absurd (no_parts_with (lines bytes) m (of_pattern (lines bytes) m c g.0) h.1.0 h.1.1)
one_error bytes (RepeatedPart m c) (NoSuchMode n d) (g, some) (h, any) = absurd (no_parts_with (lines bytes) m (of_name (lines bytes) m c g.0) h.1.0 h.1.1)
one_error bytes (NoSuchMode m c) (BadPart n d j) (g, some) (h, any) = absurd (no_parts_with (lines bytes) n (of_pattern (lines bytes) n d h.0) g.1.0 g.1.1)
one_error bytes (NoSuchMode m c) (RepeatedPart n d) (g, some) (h, any) = absurd (no_parts_with (lines bytes) n (of_name (lines bytes) n d h.0) g.1.0 g.1.1)
one_error bytes (NoSuchMode m c) (NoSuchMode n d) (((said, (say, g)), others), some) (((told, (too, h)), more), any) =
    let same = LinesSay-unique (lines bytes) said told say too in
    let here = subst (λ (s : List Said). IsFirstNoMode (modes_of s) (lines bytes) s m c) same g in
    let lines_same = IsFirstNoMode-unique (modes_of told) (lines bytes) told m n c d too here h in
    let columns = one_mode (modes_of told) (lines bytes) told n c d (subst (λ (x : ℕ). IsFirstNoMode (modes_of told) (lines bytes) told x c) lines_same here) h in
    cc (lines_same, columns)
one_error bytes OutOfMemory f (g, some) h = absurd (some refl)
one_error bytes e OutOfMemory g (h, any) = absurd (any refl)
