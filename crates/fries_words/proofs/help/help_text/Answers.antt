use Rattle.std.proofs.Common.{refl}
use Rattle.fries_words.proofs.help.help_text.Goals as goal

pub returns-in-Program : goal.returns-in-Program
returns-in-Program c = rw c.in-Program.is refl

pub returns-in-First : goal.returns-in-First
returns-in-First c = rw c.in-First.is refl

pub returns-in-Check : goal.returns-in-Check
returns-in-Check c = rw c.in-Check.is refl

pub returns-in-Plan : goal.returns-in-Plan
returns-in-Plan c = rw c.in-Plan.is refl

pub returns-in-Run : goal.returns-in-Run
returns-in-Run c = rw c.in-Run.is refl

pub returns-in-Make : goal.returns-in-Make
returns-in-Make c = rw c.in-Make.is refl

pub returns-in-Save : goal.returns-in-Save
returns-in-Save c = rw c.in-Save.is refl

pub returns-in-Resume : goal.returns-in-Resume
returns-in-Resume c = rw c.in-Resume.is refl

pub returns-in-Live : goal.returns-in-Live
returns-in-Live c = rw c.in-Live.is refl

pub returns-in-Verify : goal.returns-in-Verify
returns-in-Verify c = rw c.in-Verify.is refl

pub returns-in-Stream : goal.returns-in-Stream
returns-in-Stream c = rw c.in-Stream.is refl
