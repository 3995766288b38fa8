-- A split virtqueue as the device's end sees it.
pub mod Layout
pub mod Rules
