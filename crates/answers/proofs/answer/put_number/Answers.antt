use Rattle.std.proofs.Common.{arith}
use Rattle.std.proofs.lemmas.Result.{on_ok_weaker}
use Rattle.answers.proofs.Writing.{put_one, put_two}
use Rattle.answers.proofs.answer.put_number.Goals as goal

pub returns-in-0-to-9 : goal.returns-in-0-to-9
returns-in-0-to-9 c = on_ok_weaker c.put_digit.result (put_one _ _ c.args.n (omega arith)) c.put_digit.ensures

pub returns-in_ok-put_digit-in-10-to-99 : goal.returns-in_ok-put_digit-in-10-to-99
returns-in_ok-put_digit-in-10-to-99 c =
    on_ok_weaker c.put_digit-in-10-to-99-2.result (put_two _ _ _ c.args.n (omega arith) (omega arith) c.in_ok-put_digit-in-10-to-99.ensures) c.put_digit-in-10-to-99-2.ensures
