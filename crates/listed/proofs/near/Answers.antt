-- `listed::near` meets its contract: each arm's word is what the rows give, by computing. Written by tools/types; do not edit.
-- Assumes nothing.
use mathlib.Core.List.{[]}
use native.Mathlib.Omega.{arith}
use Rattle.listed.specs.Rows.{type_in}
use Rattle.listed.specs.Words.{word_in}
use Rattle.listed.specs.Listed.{listed}
use Rattle.listed.proofs.BlockLaws.{word_none}
use Rattle.listed.proofs.ListedLaws.{word-is}
use Rattle.listed.proofs.near.Goals as goal

pub returns-then-block-lt96 : goal.returns-then-block-lt96
unfolding type_in word_in listed
returns-then-block-lt96 c = word_none 0 0x60 listed [] tt c.args.block (omega arith) (omega arith) tt

pub returns-in-96 : goal.returns-in-96
unfolding type_in word_in listed
returns-in-96 c = word-is c.in-96.is tt

pub returns-in-97 : goal.returns-in-97
unfolding type_in word_in listed
returns-in-97 c = word-is c.in-97.is tt

pub returns-in-98 : goal.returns-in-98
unfolding type_in word_in listed
returns-in-98 c = word-is c.in-98.is tt

pub returns-in-99 : goal.returns-in-99
unfolding type_in word_in listed
returns-in-99 c = word-is c.in-99.is tt

pub returns-in-100 : goal.returns-in-100
unfolding type_in word_in listed
returns-in-100 c = word-is c.in-100.is tt

pub returns-in-101 : goal.returns-in-101
unfolding type_in word_in listed
returns-in-101 c = word-is c.in-101.is tt

pub returns-in-102 : goal.returns-in-102
unfolding type_in word_in listed
returns-in-102 c = word-is c.in-102.is tt

pub returns-in-103 : goal.returns-in-103
unfolding type_in word_in listed
returns-in-103 c = word-is c.in-103.is tt

pub returns-in-104 : goal.returns-in-104
unfolding type_in word_in listed
returns-in-104 c = word-is c.in-104.is tt

pub returns-in-105 : goal.returns-in-105
unfolding type_in word_in listed
returns-in-105 c = word-is c.in-105.is tt

pub returns-in-106 : goal.returns-in-106
unfolding type_in word_in listed
returns-in-106 c = word-is c.in-106.is tt

pub returns-in-107 : goal.returns-in-107
unfolding type_in word_in listed
returns-in-107 c = word-is c.in-107.is tt

pub returns-in-108 : goal.returns-in-108
unfolding type_in word_in listed
returns-in-108 c = word-is c.in-108.is tt

pub returns-in-109 : goal.returns-in-109
unfolding type_in word_in listed
returns-in-109 c = word-is c.in-109.is tt

pub returns-in-110 : goal.returns-in-110
unfolding type_in word_in listed
returns-in-110 c = word-is c.in-110.is tt

pub returns-in-111 : goal.returns-in-111
unfolding type_in word_in listed
returns-in-111 c = word-is c.in-111.is tt

pub returns-in-112 : goal.returns-in-112
unfolding type_in word_in listed
returns-in-112 c = word-is c.in-112.is tt

pub returns-in-113 : goal.returns-in-113
unfolding type_in word_in listed
returns-in-113 c = word-is c.in-113.is tt

pub returns-in-114 : goal.returns-in-114
unfolding type_in word_in listed
returns-in-114 c = word-is c.in-114.is tt

pub returns-in-115 : goal.returns-in-115
unfolding type_in word_in listed
returns-in-115 c = word-is c.in-115.is tt

pub returns-in-116 : goal.returns-in-116
unfolding type_in word_in listed
returns-in-116 c = word-is c.in-116.is tt

pub returns-in-117 : goal.returns-in-117
unfolding type_in word_in listed
returns-in-117 c = word-is c.in-117.is tt

pub returns-in-118 : goal.returns-in-118
unfolding type_in word_in listed
returns-in-118 c = word-is c.in-118.is tt

pub returns-in-119 : goal.returns-in-119
unfolding type_in word_in listed
returns-in-119 c = word-is c.in-119.is tt

pub returns-in-120 : goal.returns-in-120
unfolding type_in word_in listed
returns-in-120 c = word-is c.in-120.is tt

pub returns-in-121 : goal.returns-in-121
unfolding type_in word_in listed
returns-in-121 c = word-is c.in-121.is tt

pub returns-in-122 : goal.returns-in-122
unfolding type_in word_in listed
returns-in-122 c = word-is c.in-122.is tt

pub returns-in-123 : goal.returns-in-123
unfolding type_in word_in listed
returns-in-123 c = word-is c.in-123.is tt

pub returns-in-124 : goal.returns-in-124
unfolding type_in word_in listed
returns-in-124 c = word-is c.in-124.is tt

pub returns-in-125 : goal.returns-in-125
unfolding type_in word_in listed
returns-in-125 c = word-is c.in-125.is tt

pub returns-in-126 : goal.returns-in-126
unfolding type_in word_in listed
returns-in-126 c = word-is c.in-126.is tt

pub returns-in-127 : goal.returns-in-127
unfolding type_in word_in listed
returns-in-127 c = word-is c.in-127.is tt
