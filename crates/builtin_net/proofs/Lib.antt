mod Bounds
mod ShortNames
mod Placement
