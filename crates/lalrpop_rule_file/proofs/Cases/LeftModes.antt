-- Cases of specs/LeftModes.antt.
use Rattle.std.proofs.Common.{◌≡◌, ℕ, zero, suc, inl, inr, [], ◌∷◌, refl, sym, ap, ◌∙◌, arith, Contains}
use Rattle.bajofeki_rules.specs.declared.action.Action.TheVariants.{Mode, Push, Pop}
use Rattle.lalrpop_rule_file.specs.declared.file_rule.FileRule.{FileRule}
use Rattle.lalrpop_rule_file.specs.LeftModes.{CanBeLeft, LeadsOut, Leaves, LeavesAfterPop, OneLeaves}

pop_leaves : Leaves Pop 1
pop_leaves = tt

push_comes_back : ¬ Leaves (Push 2) 1
push_comes_back is = is

another_mode_leaves : Leaves (Mode 0) 1
another_mode_leaves same = omega (arith, same)

same_mode_stays : ¬ Leaves (Mode 1) 1
same_mode_stays is = is refl

-- `pop pop` in a mode on top of it
second_pop_leaves : LeavesAfterPop (Pop ∷ Pop ∷ []) 1
second_pop_leaves = (0, (refl, (0, (Pop, (refl, tt)))))

one_pop_comes_back : ¬ LeavesAfterPop (Pop ∷ []) 1
one_pop_comes_back (zero, (at, (k, (a, (is, leaves))))) = absurd (cc)
one_pop_comes_back (suc j, (at, leaves)) = absurd (cc)

-- a rule of the mode that pops
popping_rule : (r : FileRule) → r.modes.items ≡ 1 ∷ [] → r.actions.items ≡ Pop ∷ [] → CanBeLeft (r ∷ []) 1
popping_rule r modes actions = (0, (r, (refl, inl (rw modes (0, omega arith, refl), rw actions (0, (Pop, (refl, tt)))))))
