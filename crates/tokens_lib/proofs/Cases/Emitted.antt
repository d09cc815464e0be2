-- Cases of specs/Emitted.antt.
use Rattle.std.proofs.Common.{◌≡◌, ℕ, List, [], codes, inl, inr, refl, ap, arith}
use Rattle.std.specs.Prelude.{Some, None}
use Rattle.lalrpop_emit.specs.CSource.{c_file}
use Rattle.lalrpop_emit.specs.NumberedRules.{NumberedRules}
use Rattle.lalrpop_emit.specs.RustSource.{rust_file}
use Rattle.lalrpop_emit.specs.declared.error.EmitError.TheVariants as error
use Rattle.lalrpop_rules.specs.Modes.{ModeRules}
use Rattle.reports_lib.specs.Answer.{Answer, refusal}
use Rattle.tokens_lib.specs.Emitted.{IsNoSource, SourceAnswer, prefix_of, source_file}
use Rattle.lexdfa_lib.specs.declared.command.Language.{Language}
use Rattle.lexdfa_lib.specs.declared.command.Language.TheVariants.{C, Rust}

names_begin : (prefix_of None ≡ codes "lex") × (prefix_of (Some (record { ref_ptr = (0, 0); now = codes "json" })) ≡ codes "json")
names_begin = (refl, refl)

-- one file in C, and one in Rust
languages : (n : NumberedRules) → (source_file (C None) n ≡ c_file (codes "lex") n) × (source_file Rust n ≡ rust_file n)
languages n = (refl, refl)

-- a prefix that begins with a digit is a reason in C alone, and so is no variant in Rust
prefix_1x : (r : ModeRules) → IsNoSource (C (Some (record { ref_ptr = (0, 0); now = codes "1x" }))) r error.BadPrefix
prefix_1x r = ((λ e. absurd (cc (e))), inr (λ is. let bad = is.first in cc))

prefix_in_rust : (r : ModeRules) → ¬ IsNoSource Rust r error.BadPrefix
prefix_in_rust r (other, inl numbers) = numbers
prefix_in_rust r (other, inr file) = file

variant_in_c : (r : ModeRules) (k : ℕ) → ¬ IsNoSource (C None) r (error.BadVariant k)
variant_in_c r k (other, inl numbers) = numbers
variant_in_c r k (other, inr file) = file

-- a reason is said with status 2, and with no other
refused_prefix : (r : ModeRules)
    → SourceAnswer (C (Some (record { ref_ptr = (0, 0); now = codes "1x" }))) (codes "r") r (refusal 2 (codes "tokens: r: the prefix isn't an identifier: ASCII letters, digits and _, and no digit first\n"))
refused_prefix r = inr (error.BadPrefix, (prefix_1x r, refl))

-- where there is a reason, no file is written
none_written : (r : ModeRules) (file out : List ℕ)
    → ¬ SourceAnswer (C (Some (record { ref_ptr = (0, 0); now = codes "1x" }))) file r (record { status = 0; out = out; err = [] })
none_written r file out (inl (none, written)) = none (error.BadPrefix, prefix_1x r)
none_written r file out (inr (why, (is, e))) = let s : 0 ≡ 2 = ap (λ (a : Answer). a.status) e in omega (arith, s)

no_status_3 : (language : Language) (file said : List ℕ) (r : ModeRules) → ¬ SourceAnswer language file r (refusal 3 said)
no_status_3 language file said r (inl (none, (n, (are, e)))) = let s : 3 ≡ 0 = ap (λ (a : Answer). a.status) e in omega (arith, s)
no_status_3 language file said r (inr (why, (is, e))) = let s : 3 ≡ 2 = ap (λ (a : Answer). a.status) e in omega (arith, s)
