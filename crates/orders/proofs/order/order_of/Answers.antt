-- In an arm the code is a number, and the book computes.
use Rattle.rules.specs.Order.{order_of}
use Rattle.basis.specs.Tests.{tests}
use Rattle.basis.specs.Choice.{pick}
use Rattle.orders.proofs.order.order_of.Goals as goal

pub returns-in-1 : goal.returns-in-1
unfolding pick order_of
returns-in-1 c = rw c.in-1.is

pub returns-in-2 : goal.returns-in-2
unfolding pick order_of
returns-in-2 c = rw c.in-2.is

pub returns-in-4 : goal.returns-in-4
unfolding pick order_of
returns-in-4 c = rw c.in-4.is

pub returns-in-8 : goal.returns-in-8
unfolding pick order_of
returns-in-8 c = rw c.in-8.is

pub returns-in-33 : goal.returns-in-33
unfolding pick order_of
returns-in-33 c = rw c.in-33.is

pub returns-in-34 : goal.returns-in-34
unfolding pick order_of
returns-in-34 c = rw c.in-34.is

pub returns-in-36 : goal.returns-in-36
unfolding pick order_of
returns-in-36 c = rw c.in-36.is

pub returns-in-64 : goal.returns-in-64
unfolding pick order_of
returns-in-64 c = rw c.in-64.is

pub returns-in-96 : goal.returns-in-96
unfolding pick order_of
returns-in-96 c = rw c.in-96.is

pub returns-in-128 : goal.returns-in-128
unfolding pick order_of
returns-in-128 c = rw c.in-128.is

pub returns-in-160 : goal.returns-in-160
unfolding pick order_of
returns-in-160 c = rw c.in-160.is

pub returns-in-192 : goal.returns-in-192
unfolding pick order_of
returns-in-192 c = rw c.in-192.is

pub returns-in_default : goal.returns-in_default
unfolding pick order_of
returns-in_default c = search tests
