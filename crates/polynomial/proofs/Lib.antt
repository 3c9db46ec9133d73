pub mod ProperRising
mod MarksMerge
mod SumMerge
pub mod Sizes
pub mod ProductSplit
mod ProductHalves
mod Fronts
mod Checked
mod AddLoop
mod CopiedWays
pub mod Factors
