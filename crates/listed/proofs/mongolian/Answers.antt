-- `listed::mongolian` meets its contract: each arm's word is what the rows give, by computing. Written by tools/types; do not edit.
-- Assumes nothing.
use Rattle.listed.specs.Rows.{type_in}
use Rattle.listed.specs.Words.{word_in}
use Rattle.listed.specs.Listed.{listed}
use Rattle.listed.proofs.ListedLaws.{word-is}
use Rattle.listed.proofs.mongolian.Goals as goal

pub returns-in-384 : goal.returns-in-384
unfolding type_in word_in listed
returns-in-384 c = word-is c.in-384.is tt

pub returns-in-385 : goal.returns-in-385
unfolding type_in word_in listed
returns-in-385 c = word-is c.in-385.is tt

pub returns-in-386 : goal.returns-in-386
unfolding type_in word_in listed
returns-in-386 c = word-is c.in-386.is tt

pub returns-in-387 : goal.returns-in-387
unfolding type_in word_in listed
returns-in-387 c = word-is c.in-387.is tt

pub returns-in-388 : goal.returns-in-388
unfolding type_in word_in listed
returns-in-388 c = word-is c.in-388.is tt

pub returns-in-389 : goal.returns-in-389
unfolding type_in word_in listed
returns-in-389 c = word-is c.in-389.is tt

pub returns-in-390 : goal.returns-in-390
unfolding type_in word_in listed
returns-in-390 c = word-is c.in-390.is tt

pub returns-in-391 : goal.returns-in-391
unfolding type_in word_in listed
returns-in-391 c = word-is c.in-391.is tt

pub returns-in-392 : goal.returns-in-392
unfolding type_in word_in listed
returns-in-392 c = word-is c.in-392.is tt

pub returns-in-393 : goal.returns-in-393
unfolding type_in word_in listed
returns-in-393 c = word-is c.in-393.is tt

pub returns-in-394 : goal.returns-in-394
unfolding type_in word_in listed
returns-in-394 c = word-is c.in-394.is tt
