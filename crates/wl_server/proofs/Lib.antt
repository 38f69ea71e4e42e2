mod Talks
mod Answering
mod Observed
mod Words
mod Parts
mod Sockets
