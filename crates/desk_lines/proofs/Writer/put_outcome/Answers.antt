-- `desk_lines::Writer::put_outcome` meets its contract. Assumes nothing.
use Rattle.text.specs.Ascii.{ascii}
use Rattle.outcomes.specs.Values.{answer_in}
use Rattle.desk_lines.specs.Lines.{printed}
use Rattle.desk_lines.specs.laws.Writing.{writes_as}
use Rattle.desk_lines.proofs.Writer.put_outcome.Goals as goal

pub returns-in-Done : goal.returns-in-Done
unfolding answer_in
returns-in-Done c = writes_as c.put_done.ensures _ (rw (c.in-Done.is, c.first.ensures.0))

pub returns-in-Ask : goal.returns-in-Ask
unfolding answer_in
returns-in-Ask c = writes_as c.put_ask.ensures _ (rw (c.in-Ask.is, c.first-in-Ask.ensures.0))

pub returns-in-Refused : goal.returns-in-Refused
unfolding answer_in printed ascii
returns-in-Refused c = writes_as c.put_counted.ensures _ (rw (c.in-Refused.is, c.number.ensures))

pub returns-in-Stopped : goal.returns-in-Stopped
unfolding answer_in printed ascii
returns-in-Stopped c = writes_as c.put_counted-in-Stopped.ensures _ (rw (c.in-Stopped.is, c.number-in-Stopped.ensures))
