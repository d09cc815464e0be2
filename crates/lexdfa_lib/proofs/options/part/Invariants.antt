use Rattle.std.proofs.Common.{◌≡◌, ◌++◌, map, take, not}
use Rattle.std.specs.Prelude.{string_bytes, filter}
use Rattle.lexdfa_lib.specs.Options.{is_option}
use Rattle.lexdfa_lib.proofs.options.part.Given as goal

abbrev pub invariant-loop-word : goal.invariant-loop-word
invariant-loop-word l = record {
  options : map (λ w. w.now) l.options.items ≡ filter is_option (map string_bytes (take l.word-index l.front));
  names : map (λ w. w.now) l.names.items ≡ filter (λ w. not (is_option w)) (map string_bytes (take l.word-index l.front));
}

abbrev pub invariant-loop-name : goal.invariant-loop-name
invariant-loop-name l = map (λ w. w.now) l.names.items ≡ map (λ w. w.now) l.initial.names.items ++ map string_bytes (take l.name-index l.behind)
