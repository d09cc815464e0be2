use Rattle.lalrpop_rules.proofs.FileLexers.{lexer_of_file, error_of_file}
use Rattle.lalrpop_rules.proofs.rule_lexer.RuleLexer.from_file.Goals as goal

pub returns-clause-lexer : goal.returns-clause-lexer
returns-clause-lexer c =
    lexer_of_file c.args.bytes.now c.in_ok-file.file c.lexer_of.result
    (record { parts = c.in_ok-file.ensures.parts; rules = c.in_ok-file.ensures.rules; places = c.in_ok-file.ensures.places }) c.lexer_of.ensures.lexer

pub returns-clause-error : goal.returns-clause-error
returns-clause-error c =
    error_of_file c.args.bytes.now c.in_ok-file.file c.lexer_of.result
    (record { parts = c.in_ok-file.ensures.parts; rules = c.in_ok-file.ensures.rules; places = c.in_ok-file.ensures.places }) c.lexer_of.ensures.error
