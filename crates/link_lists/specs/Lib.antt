pub mod OpenFlags
pub mod LinkPending
pub mod HeldEdgesPart
pub mod LateBlocksPart
pub mod LoadRecordPart
