use Rattle.lalrpop_re.proofs.ItemLaws.{character_pushed, set_pushed}
use Rattle.lalrpop_re.proofs.bracket.push_primary.Goals as goal

pub returns-in_ok-push_character-in-Character : goal.returns-in_ok-push_character-in-Character
returns-in_ok-push_character-in-Character c =
    character_pushed c.args.flags c.args.primary.part c.in-Character.c c.args.ranges.now.items c.push_character.new.ranges.items c.in-Character.is c.in_ok-push_character-in-Character.ensures

pub returns-in_ok-push_set-in-Set : goal.returns-in_ok-push_set-in-Set
returns-in_ok-push_set-in-Set c =
    set_pushed c.args.flags c.args.primary.part c.in-Set.class c.in-Set.negated c.args.ranges.now.items c.push_set.new.ranges.items c.in-Set.is c.in_ok-push_set-in-Set.ensures
