-- What the contracts of `printing` cite: what is printed of a joined line, and how bytes are written to lent memory.
-- Assumes nothing.
pub mod Printed
pub mod Writing
