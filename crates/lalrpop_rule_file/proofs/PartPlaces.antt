-- The parts of lines and their places, line by line.
use Rattle.std.proofs.Common.{◌≡◌, ℕ, ◌+◌, List, [], ◌∷◌, ◌++◌, length, refl, sym, ap, subst, ◌∙◌, append-nil, append_assoc, length-append, arith}
use Rattle.bajofeki_rules.specs.Lines.{lines}
use Rattle.lalrpop_rule_file.specs.RuleLine.{WrittenPart}
use Rattle.lalrpop_rule_file.specs.FileModes.{Said, Nothing, Heading, Define, Rule}
use Rattle.lalrpop_rule_file.specs.FileParts.{IsNameColumn, parts_in}
use Rattle.lalrpop_rule_file.specs.RuleFile.{LineSays, LinesSay, without_return}
use Rattle.lalrpop_rule_file.specs.PartLines.{ArePartLines, ArePartsFrom, IsPartAt}
use Rattle.lalrpop_rule_file.specs.declared.part_line.PartLine.{PartLine}
use Rattle.lalrpop_rule_file.proofs.FileLines.{says_more}

-- the lines so far define these parts
pub record HasPlaced (bytes rest : List ℕ) (number : ℕ) (ps : List PartLine) : Type 0 where
  pub done : List (List ℕ)
  pub said : List Said
  pub parts : lines bytes ≡ done ++ lines rest
  pub say : LinesSay done said
  pub counted : number ≡ length done
  pub are_parts : ArePartsFrom 1 done said ps

pub placed_none : (bytes : List ℕ) → HasPlaced bytes bytes 0 []
placed_none bytes = record { done = []; said = []; parts = refl; say = tt; counted = refl; are_parts = tt }

-- a line that defines no part
aside : (n : ℕ) (ls : List (List ℕ)) (said : List Said) (ps : List PartLine) (line : List ℕ) (s : Said) → parts_in (s ∷ []) ≡ [] → ArePartsFrom n ls said ps → ArePartsFrom n (ls ++ line ∷ []) (said ++ s ∷ []) ps
aside n [] [] [] line Nothing none are = tt
aside n [] [] [] line (Heading section) none are = tt
aside n [] [] [] line (Rule rule) none are = tt
aside n [] [] [] line (Define w) none are = absurd (cc)
aside n [] [] (p ∷ ps) line s none are = absurd are
aside n [] (t ∷ said) ps line s none are = absurd are
aside n (l ∷ ls) [] ps line s none are = absurd are
aside n (l ∷ ls) (Nothing ∷ said) ps line s none are = aside (n + 1) ls said ps line s none are
aside n (l ∷ ls) (Heading section ∷ said) ps line s none are = aside (n + 1) ls said ps line s none are
aside n (l ∷ ls) (Rule rule ∷ said) ps line s none are = aside (n + 1) ls said ps line s none are
aside n (l ∷ ls) (Define w ∷ said) [] line s none are = absurd are
aside n (l ∷ ls) (Define w ∷ said) (p ∷ ps) line s none are = (are.0, aside (n + 1) ls said ps line s none are.1)

-- a line that defines one
part_more : (n k : ℕ) (ls : List (List ℕ)) (said : List Said) (ps : List PartLine) (line : List ℕ) (w : WrittenPart) (p : PartLine) → k ≡ n + length ls → IsPartAt k line w p → ArePartsFrom n ls said ps
    → ArePartsFrom n (ls ++ line ∷ []) (said ++ Define w ∷ []) (ps ++ p ∷ [])
part_more n k [] [] [] line w p same at are = (subst (λ (x : ℕ). IsPartAt x line w p) (omega (arith, same)) at, tt)
part_more n k [] [] (q ∷ ps) line w p same at are = absurd are
part_more n k [] (t ∷ said) ps line w p same at are = absurd are
part_more n k (l ∷ ls) [] ps line w p same at are = absurd are
part_more n k (l ∷ ls) (Nothing ∷ said) ps line w p same at are = part_more (n + 1) k ls said ps line w p (omega (arith, same)) at are
part_more n k (l ∷ ls) (Heading section ∷ said) ps line w p same at are = part_more (n + 1) k ls said ps line w p (omega (arith, same)) at are
part_more n k (l ∷ ls) (Rule rule ∷ said) ps line w p same at are = part_more (n + 1) k ls said ps line w p (omega (arith, same)) at are
part_more n k (l ∷ ls) (Define v ∷ said) [] line w p same at are = absurd are
part_more n k (l ∷ ls) (Define v ∷ said) (q ∷ ps) line w p same at are = (are.0, part_more (n + 1) k ls said ps line w p (omega (arith, same)) at are.1)

pub placed_aside : (bytes rest after line : List ℕ) (number : ℕ) (ps : List PartLine) (s : Said) → HasPlaced bytes rest number ps → lines rest ≡ line ∷ lines after → LineSays line s → parts_in (s ∷ []) ≡ []
    → HasPlaced bytes after (number + 1) ps
placed_aside bytes rest after line number ps s h split says none = record {
  done = h.done ++ line ∷ [];
  said = h.said ++ s ∷ [];
  parts = h.parts ∙ ap (λ (x : List (List ℕ)). h.done ++ x) split ∙ sym (append_assoc h.done (line ∷ []) (lines after));
  say = says_more h.done h.said line s h.say says;
  counted = ap (λ (n : ℕ). n + 1) h.counted ∙ sym (length-append h.done (line ∷ []));
  are_parts = aside 1 h.done h.said ps line s none h.are_parts;
}

pub placed_at : (n : ℕ) (line : List ℕ) (w : WrittenPart) (p : PartLine) → p.name.now ≡ w.name → p.pattern.now ≡ w.pattern → p.place.line ≡ n → IsNameColumn (without_return line) w.name p.place.column → IsPartAt n line w p
placed_at n line w p name pattern in_line column = record { name = name; pattern = pattern; in_line = in_line; column = column }

pub placed_part : (bytes rest after line : List ℕ) (number : ℕ) (ps qs : List PartLine) (w : WrittenPart) (p : PartLine) → HasPlaced bytes rest number ps → lines rest ≡ line ∷ lines after → LineSays line (Define w)
    → IsPartAt (number + 1) line w p → qs ≡ ps ++ p ∷ [] → HasPlaced bytes after (number + 1) qs
placed_part bytes rest after line number ps qs w p h split says at are =
    rw are (record {
      done = h.done ++ line ∷ [];
      said = h.said ++ Define w ∷ [];
      parts = h.parts ∙ ap (λ (x : List (List ℕ)). h.done ++ x) split ∙ sym (append_assoc h.done (line ∷ []) (lines after));
      say = says_more h.done h.said line (Define w) h.say says;
      counted = ap (λ (n : ℕ). n + 1) h.counted ∙ sym (length-append h.done (line ∷ []));
      are_parts = part_more 1 (number + 1) h.done h.said ps line w p (omega (arith, h.counted)) at h.are_parts;
    })

pub placed_all : (bytes rest : List ℕ) (number : ℕ) (ps : List PartLine) → HasPlaced bytes rest number ps → rest ≡ [] → ArePartLines (lines bytes) ps
placed_all bytes rest number ps h none =
    let whole : lines bytes ≡ h.done = h.parts ∙ ap (λ (x : List ℕ). h.done ++ lines x) none ∙ append-nil h.done in
    (h.said, (subst (λ (x : List (List ℕ)). LinesSay x h.said) (sym whole) h.say, subst (λ (x : List (List ℕ)). ArePartsFrom 1 x h.said ps) (sym whole) h.are_parts))
