-- The link as a function of the objects, and its parts: what the code computes. (ld(1)) A reader does not have to trust it, as
-- `linking_law` of laws ties it to the relation `IsLinkedFrom`.
pub mod Plans
pub mod Finals
pub mod Words
pub mod Tables
pub mod Reports
pub mod Link
