-- `listed::far` meets its contract: each arm's word is what the rows give, by computing. Written by tools/types; do not edit.
-- Assumes nothing.
use mathlib.Core.List.{[], ◌∷◌}
use native.Mathlib.Omega.{arith}
use Rattle.listed.specs.Rows.{type_in}
use Rattle.listed.specs.Words.{word_in}
use Rattle.listed.specs.Listed.{listed}
use Rattle.listed.proofs.BlockLaws.{word_none}
use Rattle.listed.proofs.ListedLaws.{word-is}
use Rattle.listed.proofs.far.Goals as goal

pub returns-in-512 : goal.returns-in-512
unfolding type_in word_in listed
returns-in-512 c = word-is c.in-512.is tt

pub returns-in-514 : goal.returns-in-514
unfolding type_in word_in listed
returns-in-514 c = word-is c.in-514.is tt

pub returns-in-518 : goal.returns-in-518
unfolding type_in word_in listed
returns-in-518 c = word-is c.in-518.is tt

pub returns-in-2692 : goal.returns-in-2692
unfolding type_in word_in listed
returns-in-2692 c = word-is c.in-2692.is tt

pub returns-in-2693 : goal.returns-in-2693
unfolding type_in word_in listed
returns-in-2693 c = word-is c.in-2693.is tt

pub returns-in-2694 : goal.returns-in-2694
unfolding type_in word_in listed
returns-in-2694 c = word-is c.in-2694.is tt

pub returns-in-2695 : goal.returns-in-2695
unfolding type_in word_in listed
returns-in-2695 c = word-is c.in-2695.is tt

pub returns-in-4268 : goal.returns-in-4268
unfolding type_in word_in listed
returns-in-4268 c = word-is c.in-4268.is tt

pub returns-in-4269 : goal.returns-in-4269
unfolding type_in word_in listed
returns-in-4269 c = word-is c.in-4269.is tt

pub returns-in-4270 : goal.returns-in-4270
unfolding type_in word_in listed
returns-in-4270 c = word-is c.in-4270.is tt

pub returns-in-4280 : goal.returns-in-4280
unfolding type_in word_in listed
returns-in-4280 c = word-is c.in-4280.is tt

pub returns-in-4281 : goal.returns-in-4281
unfolding type_in word_in listed
returns-in-4281 c = word-is c.in-4281.is tt

pub returns-in-4282 : goal.returns-in-4282
unfolding type_in word_in listed
returns-in-4282 c = word-is c.in-4282.is tt

pub returns-in-4304 : goal.returns-in-4304
unfolding type_in word_in listed
returns-in-4304 c = word-is c.in-4304.is tt

pub returns-in-4305 : goal.returns-in-4305
unfolding type_in word_in listed
returns-in-4305 c = word-is c.in-4305.is tt

pub returns-in-4306 : goal.returns-in-4306
unfolding type_in word_in listed
returns-in-4306 c = word-is c.in-4306.is tt

pub returns-in-4332 : goal.returns-in-4332
unfolding type_in word_in listed
returns-in-4332 c = word-is c.in-4332.is tt

pub returns-in-4333 : goal.returns-in-4333
unfolding type_in word_in listed
returns-in-4333 c = word-is c.in-4333.is tt

pub returns-in-4334 : goal.returns-in-4334
unfolding type_in word_in listed
returns-in-4334 c = word-is c.in-4334.is tt

pub returns-in-4339 : goal.returns-in-4339
unfolding type_in word_in listed
returns-in-4339 c = word-is c.in-4339.is tt

pub returns-in-4340 : goal.returns-in-4340
unfolding type_in word_in listed
returns-in-4340 c = word-is c.in-4340.is tt

pub returns-in-4341 : goal.returns-in-4341
unfolding type_in word_in listed
returns-in-4341 c = word-is c.in-4341.is tt

pub returns-in-4343 : goal.returns-in-4343
unfolding type_in word_in listed
returns-in-4343 c = word-is c.in-4343.is tt

pub returns-in-4344 : goal.returns-in-4344
unfolding type_in word_in listed
returns-in-4344 c = word-is c.in-4344.is tt

pub returns-in-4347 : goal.returns-in-4347
unfolding type_in word_in listed
returns-in-4347 c = word-is c.in-4347.is tt

pub returns-in-4348 : goal.returns-in-4348
unfolding type_in word_in listed
returns-in-4348 c = word-is c.in-4348.is tt

pub returns-in-4363 : goal.returns-in-4363
unfolding type_in word_in listed
returns-in-4363 c = word-is c.in-4363.is tt

pub returns-in-4364 : goal.returns-in-4364
unfolding type_in word_in listed
returns-in-4364 c = word-is c.in-4364.is tt

pub returns-in-7824 : goal.returns-in-7824
unfolding type_in word_in listed
returns-in-7824 c = word-is c.in-7824.is tt

pub returns-in-7825 : goal.returns-in-7825
unfolding type_in word_in listed
returns-in-7825 c = word-is c.in-7825.is tt

pub returns-in-7826 : goal.returns-in-7826
unfolding type_in word_in listed
returns-in-7826 c = word-is c.in-7826.is tt

pub returns-in-7827 : goal.returns-in-7827
unfolding type_in word_in listed
returns-in-7827 c = word-is c.in-7827.is tt

pub returns-in-7828 : goal.returns-in-7828
unfolding type_in word_in listed
returns-in-7828 c = word-is c.in-7828.is tt

pub returns-in_default : goal.returns-in_default
unfolding type_in word_in listed
returns-in_default c =
    word_none 0x18B 0x100000000 listed (
    0x200 ∷ 0x202 ∷ 0x206 ∷ 0xA84 ∷ 0xA85 ∷ 0xA86 ∷ 0xA87 ∷ 0x10AC ∷ 0x10AD ∷ 0x10AE ∷ 0x10B8 ∷ 0x10B9 ∷ 0x10BA ∷ 0x10D0 ∷ 0x10D1 ∷ 0x10D2 ∷ 0x10EC ∷ 0x10ED ∷ 0x10EE ∷ 0x10F3 ∷ 0x10F4 ∷ 0x10F5 ∷ 0x10F7 ∷ 0x10F8 ∷ 0x10FB ∷ 0x10FC ∷ 0x110B ∷ 0x110C ∷ 0x1E90 ∷ 0x1E91 ∷ 0x1E92 ∷ 0x1E93 ∷ 0x1E94 ∷ []) tt c.args.block c.requires (omega arith) (search)
