-- Each cause has its number in the rules.
use Rattle.rules.proofs.broken_answer.Reads as reads
use Rattle.rules.proofs.broken_answer.Goals as goal

-- src/lib.rt:45:1
pub returns-in-Region : goal.returns-in-Region
returns-in-Region c = rw c.in-Region.is

-- src/lib.rt:45:1
pub returns-in-Entries : goal.returns-in-Entries
returns-in-Entries c = rw c.in-Entries.is

-- src/lib.rt:45:1
pub returns-in-Head : goal.returns-in-Head
returns-in-Head c = rw c.in-Head.is
