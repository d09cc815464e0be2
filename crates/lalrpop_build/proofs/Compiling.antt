-- Trees compiled one after another.
use Rattle.std.proofs.Common.{◌≡◌, ◌≢◌, ℕ, ◌+◌, inl, inr, List, [], ◌∷◌, ◌++◌, length, ap, sym, ◌∙◌, subst, arith, Some, None, length-append}
use Rattle.std.specs.Prelude.{slice_get}
use Rattle.std.proofs.lemmas.Option.{slice_get_cases, slice_get_within}
use Rattle.lalrpop_hir.specs.Tree.{Tree}
use Rattle.lalrpop_nfa.specs.Graph.{Graph}
use Rattle.lalrpop_hir.specs.Fault.{fault}
use Rattle.lalrpop_nfa.specs.Compiled.{IsCompiled}
use Rattle.lalrpop_nfa.specs.Automata.{AreCompiled}
use Rattle.lalrpop_hir.specs.Report.{NoFault, IsFaultOf}
use Rattle.lalrpop_build.specs.Internal.Given.{AreFixed}
use Rattle.lalrpop_build.specs.Internal.Expansion.{IsRefusalOf, NoFaultBefore, IsCompiledAt}
use Rattle.lalrpop_hir.specs.declared.error.NfaConstructionError.TheVariants.{OutOfMemory as NoMemory}
use Rattle.lalrpop_hir.specs.declared.error.NfaConstructionError.{NfaConstructionError}
use Rattle.lalrpop_hir.specs.declared.error.DfaConstructionError.{DfaConstructionError}
use Rattle.lalrpop_hir.specs.declared.error.DfaConstructionError.TheVariants.{NfaConstructionError as Refused, Ambiguity, OutOfMemory}
use Rattle.lalrpop_hir.proofs.Pushed.{pushed_cases}

-- the first k trees have no fault, and these automata
pub record IsCompiledTo (ts : List Tree) (ns : List Graph) (k : ℕ) : Type 0 where
  pub counted : length ns ≡ k
  pub each : (i : ℕ) (t : Tree) (g : Graph) → slice_get ts i ≡ Some t → slice_get ns i ≡ Some g → (fault t ≡ None) × IsCompiled t g
  pub fixed : AreFixed ns

pub compiled_more : (ts : List Tree) (ns ns2 : List Graph) (k : ℕ) (g : Graph) → IsCompiledTo ts ns k → IsCompiledAt ts k g → ns2 ≡ ns ++ g ∷ [] → IsCompiledTo ts ns2 (k + 1)
compiled_more ts ns ns2 k g h c more = record {
  counted = omega (arith, ap length more, length-append ns (g ∷ []), h.counted);
  each = λ i u v a b. elim (pushed_cases ns g i v (rw more at b)) [
    | inl was ↦ h.each i u v a was
    | inr new ↦
        (let here : slice_get ts i ≡ Some c.tree = subst (λ j. slice_get ts j ≡ Some c.tree) (sym (new.0 ∙ h.counted)) c.at in
        let same : Some u ≡ Some c.tree = sym a ∙ here in
        let tree : c.tree ≡ u = cc in
        rw (new.1, ← tree) (c.no_fault, c.compiled))
  ];
  fixed = λ i u b. elim (pushed_cases ns g i u (rw more at b)) [
    | inl was ↦ h.fixed i u was
    | inr new ↦ rw new.1 c.fixed
  ];
}

-- what comes before has no fault
pub before : (ts : List Tree) (ns : List Graph) (k : ℕ) → IsCompiledTo ts ns k → NoFaultBefore ts k
before ts ns k h j t l a = elim (slice_get_cases ns j).1 [
  | inl g ↦ (h.each j t g.0 a g.2).0
  | inr past ↦ absurd (omega (arith, past.0, h.counted))
]

pub compiled_all : (ts : List Tree) (ns : List Graph) (k : ℕ) → IsCompiledTo ts ns k → k ≡ length ts → NoFault ts × AreCompiled ts ns
compiled_all ts ns k h e = (
  λ i t a. before ts ns k h i t (omega (arith, e, slice_get_within ts i t a)) a,
  record { same_length = h.counted ∙ e; each = λ i t g a b. (h.each i t g a b).1 },
)

-- ---- what is reported
pub refused_report : (ts : List Tree) (k : ℕ) (t : Tree) (e : NfaConstructionError) (r : DfaConstructionError) → NoFaultBefore ts k → slice_get ts k ≡ Some t → (e ≢ NoMemory → fault t ≡ Some e) → IsRefusalOf k e r → IsFaultOf ts r
refused_report ts k t e (Refused i f) h at has m = rw (m.0, m.1) (record { tree = t; at = at; has = has m.2; none_before = h })
refused_report ts k t e (Ambiguity i j w) h at has m = m
refused_report ts k t e OutOfMemory h at has m = tt
