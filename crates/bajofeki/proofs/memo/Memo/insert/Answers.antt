use Rattle.bajofeki.specs.declared.memo.Memo.{Memo}
use Rattle.bajofeki.proofs.Noting.{known_more, noted_more}
use Rattle.bajofeki.proofs.memo.Memo.insert.Goals as goal

pub returns-in-Ok : goal.returns-in-Ok
returns-in-Ok c =
    let more : Memo = record { noted = c.insert.new.self; is_whole = c.args.self.now.is_whole } in
    record {
      only = λ m p at n noted. noted_more c.args.self.now more c.args.mode c.args.place c.args.to c.args.size c.in-Ok.ensures.updates m p at n noted;
      stays = λ m p at known. known_more c.args.self.now more c.args.mode c.args.place c.args.to c.args.size c.in-Ok.ensures.updates m p at known;
      noted = λ whole. (c.args.size, c.in-Ok.ensures.updates.1);
      whole = λ whole. whole;
    }
