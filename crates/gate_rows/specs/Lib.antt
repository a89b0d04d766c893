pub mod GateRows
