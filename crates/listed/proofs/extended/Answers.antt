-- `listed::extended` meets its contract: each arm's word is what the rows give, by computing. Written by tools/types; do not edit.
-- Assumes nothing.
use mathlib.Core.List.{[], ◌∷◌}
use native.Mathlib.Omega.{arith}
use Rattle.listed.specs.Rows.{type_in}
use Rattle.listed.specs.Words.{word_in}
use Rattle.listed.specs.Listed.{listed}
use Rattle.listed.proofs.BlockLaws.{word_none}
use Rattle.listed.proofs.ListedLaws.{word-is}
use Rattle.listed.proofs.extended.Goals as goal

pub returns-in-128 : goal.returns-in-128
unfolding type_in word_in listed
returns-in-128 c = word-is c.in-128.is tt

pub returns-in-129 : goal.returns-in-129
unfolding type_in word_in listed
returns-in-129 c = word-is c.in-129.is tt

pub returns-in-130 : goal.returns-in-130
unfolding type_in word_in listed
returns-in-130 c = word-is c.in-130.is tt

pub returns-in-131 : goal.returns-in-131
unfolding type_in word_in listed
returns-in-131 c = word-is c.in-131.is tt

pub returns-in-132 : goal.returns-in-132
unfolding type_in word_in listed
returns-in-132 c = word-is c.in-132.is tt

pub returns-in-133 : goal.returns-in-133
unfolding type_in word_in listed
returns-in-133 c = word-is c.in-133.is tt

pub returns-in-134 : goal.returns-in-134
unfolding type_in word_in listed
returns-in-134 c = word-is c.in-134.is tt

pub returns-in-135 : goal.returns-in-135
unfolding type_in word_in listed
returns-in-135 c = word-is c.in-135.is tt

pub returns-in-136 : goal.returns-in-136
unfolding type_in word_in listed
returns-in-136 c = word-is c.in-136.is tt

pub returns-in-137 : goal.returns-in-137
unfolding type_in word_in listed
returns-in-137 c = word-is c.in-137.is tt

pub returns-in-138 : goal.returns-in-138
unfolding type_in word_in listed
returns-in-138 c = word-is c.in-138.is tt

pub returns-in-139 : goal.returns-in-139
unfolding type_in word_in listed
returns-in-139 c = word-is c.in-139.is tt

pub returns-in-140 : goal.returns-in-140
unfolding type_in word_in listed
returns-in-140 c = word-is c.in-140.is tt

pub returns-in-141 : goal.returns-in-141
unfolding type_in word_in listed
returns-in-141 c = word-is c.in-141.is tt

pub returns-in-142 : goal.returns-in-142
unfolding type_in word_in listed
returns-in-142 c = word-is c.in-142.is tt

pub returns-in_default : goal.returns-in_default
unfolding type_in word_in listed
returns-in_default c =
    word_none 0x80 0x180 listed (
    0x80 ∷ 0x81 ∷ 0x82 ∷ 0x83 ∷ 0x84 ∷ 0x85 ∷ 0x86 ∷ 0x87 ∷ 0x88 ∷ 0x89 ∷ 0x8A ∷ 0x8B ∷ 0x8C ∷ 0x8D ∷ 0x8E ∷ []) tt c.args.block (omega (arith, c.requires.0)) (omega (arith, c.requires.1)) (search)
