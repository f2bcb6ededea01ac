-- The `==` of the parts of requests tells exactly whether two of them are equal.
use Rattle.std.proofs.Common.{◌≡◌, Decides, rules}
use Rattle.inf_message.specs.declared.aim.Aim.{Aim}
use Rattle.inf_message.specs.declared.aim.What.{What}
use Rattle.inf_message.specs.declared.op.Op.{Op}
use Rattle.inf_message.specs.contracts.aim.AimPartialEq.TheImpl as aim_eq
use Rattle.inf_message.specs.contracts.aim.WhatPartialEq.TheImpl as what_eq
use Rattle.inf_message.specs.contracts.op.OpPartialEq.TheImpl as op_eq

pub aim_decides : (a b : Aim) → Decides (aim_eq.eq-value.it a b) (a ≡ b)
aim_decides a b = search rules

pub what_decides : (a b : What) → Decides (what_eq.eq-value.it a b) (a ≡ b)
what_decides a b = search rules

pub op_decides : (a b : Op) → Decides (op_eq.eq-value.it a b) (a ≡ b)
op_decides a b = search rules
