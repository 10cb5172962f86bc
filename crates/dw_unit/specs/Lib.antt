-- What the files have:
-- - Unit: units with their tables: their one spelling, where they are, their breaks, the first fault
-- - ReadUnit, DecideUnit: the plain reader of units, over a table and over a section, and that it decides them
-- - UnitView: the program's units, and errors of reading one, as those of the definitions
-- - Inside: that a break stands within the bytes or just behind them
-- - Draft: a unit under construction, what each step makes of it, and what is kept
-- - Build: the same between entries, as a builder has it: what each call makes of it, and why one is refused
-- - Put: a unit in which one number is another
-- - Laws, UnitLaws: the statements of the laws of units; their proofs
--
-- proofs/*Rows.antt are the computed rows: the definitions and the plain reader over written-out bytes.
-- proofs/Samples.antt has the bytes and values that they share.

pub mod Unit
pub mod ReadUnit
pub mod Laws
pub mod DecideUnit
pub mod UnitLaws
pub mod UnitView
pub mod Draft
pub mod Build
pub mod Inside
pub mod Put
